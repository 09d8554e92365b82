pub mod CallLaws
pub mod ClearingLaws
pub mod PreparedLaws
pub mod PromiseLaws
pub mod RecordLaws
