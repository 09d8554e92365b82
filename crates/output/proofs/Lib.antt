pub mod RestLaws
pub mod PageLaws
pub mod AskedLaws
pub mod TurnLaws
pub mod StretchLaws
pub mod BeginLaws
pub mod StepLaws
