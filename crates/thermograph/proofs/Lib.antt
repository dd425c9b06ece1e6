pub mod FlagLaws
pub mod WallLaws
pub mod ScaffoldLaws
pub mod DrawingLaws
pub mod BoundLaws
