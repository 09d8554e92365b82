pub mod RequestLaws
pub mod LineLaws
pub mod EntryLaws
pub mod PrintedLaws
