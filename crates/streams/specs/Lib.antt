pub mod Reading
pub mod Writing
pub mod Running
pub mod Printing
