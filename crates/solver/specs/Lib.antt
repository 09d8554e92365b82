pub mod Lent
pub mod Preparing
