pub mod CutLemmas
pub mod LocalBoardLemmas
