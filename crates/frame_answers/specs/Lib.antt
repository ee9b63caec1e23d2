-- What the program answers to a line, and what it keeps.
pub mod Step
pub mod Gives
pub mod Fits
pub mod QuestionLaws
pub mod StepLaws
pub mod ReadyLaws
pub mod CountLaws
pub mod WritableLaws
