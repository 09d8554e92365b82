pub mod Rest
pub mod Standing
pub mod Stretches
