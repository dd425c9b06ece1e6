pub mod CopyLemmas
pub mod FilesLemmas
pub mod PieceLemmas
pub mod HeldLemmas
pub mod LineLemmas
pub mod UsedLineLemmas
