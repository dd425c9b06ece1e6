pub mod BudgetValues
pub mod Values
pub mod Refusals
pub mod Remembered
pub mod inner
