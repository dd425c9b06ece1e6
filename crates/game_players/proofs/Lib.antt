pub mod PlayerLaws
