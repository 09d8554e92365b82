pub mod Emission
pub mod Hanging
pub mod Walk
