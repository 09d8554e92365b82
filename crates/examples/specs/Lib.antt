pub mod Examples
pub mod Boundaries
