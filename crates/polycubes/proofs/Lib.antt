pub mod FillingLaws
pub mod WalkLaws
pub mod BoxLaws
pub mod SetLaws
pub mod HangingLaws
pub mod LayerLaws
pub mod OutcomeLaws
