pub mod Sums
pub mod Memo
pub mod Incentives
pub mod Opposites
pub mod inner
