pub mod OutcomeLaws
pub mod PlacingLaws
pub mod MoveLaws
pub mod OpeningLaws
pub mod WallLaws
pub mod PlainLaws
