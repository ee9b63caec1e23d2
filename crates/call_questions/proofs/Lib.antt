-- The laws of this crate whose definitions must-fail edits change.
pub mod AnswerLaws
pub mod AskedLaws
