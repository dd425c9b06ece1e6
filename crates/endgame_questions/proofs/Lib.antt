-- How the parts of a question are answered.
pub mod AnswerLaws
mod FileLaws
mod SizeLaws
pub mod RefusalLaws
pub mod CycleAnswers
mod TrialLaws
pub mod StepLaws
pub mod UndeclaredLaws
