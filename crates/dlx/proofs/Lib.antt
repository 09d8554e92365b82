pub mod LineLaws
pub mod RecordLaws
pub mod CheckLaws
pub mod TextLaws
pub mod SystemTextLaws
pub mod OutcomeLaws
