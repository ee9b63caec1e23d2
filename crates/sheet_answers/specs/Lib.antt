-- What clearing and the questions come to on a plain store of any capacity.
pub mod ClearLaws
pub mod QuestionLaws
