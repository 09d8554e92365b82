pub mod PartLaws
pub mod FieldLaws
pub mod LineLaws
pub mod CellLaws
pub mod PieceLaws
pub mod ReadingLaws
pub mod FileLaws
pub mod ListingLaws
