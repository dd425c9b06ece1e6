pub mod EntryLaws
pub mod StoreLaws
