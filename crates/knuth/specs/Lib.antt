pub mod Matrix
pub mod Listing
