pub mod SymmetryLaws
pub mod PlaceLaws
pub mod CarryLaws
pub mod SpotLaws
pub mod ShapeLaws
pub mod MadeLaws
pub mod BeginLaws
pub mod PlacesLaws
mod ExampleLaws
