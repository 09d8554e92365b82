pub mod PrintLaws
pub mod ReadLaws
pub mod RunLaws
pub mod WriteLaws
