pub mod Lines
pub mod Reading
