pub mod ExampleLaws
pub mod BoundaryLaws
