-- The frames that only ask.
pub mod Question
pub mod QuestionLaws
