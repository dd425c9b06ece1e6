pub mod MoveLaws
pub mod EngineGameLaws
pub mod AlikeLaws
pub mod PlainLemmas
pub mod RoomLemmas
pub mod PreparedLemmas
pub mod FitLemmas
