pub mod Normal
pub mod Orders
pub mod Starts
pub mod Packings
pub mod Wanted
pub mod Emission
pub mod Entries
