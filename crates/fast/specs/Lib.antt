pub mod Searching
pub mod Pruned
pub mod Listing
