pub mod Pieces
pub mod Stages
pub mod Merging
pub mod Poses
pub mod Fitting
pub mod Counting
pub mod Stripping
pub mod Trays
