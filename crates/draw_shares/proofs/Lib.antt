-- The laws of this crate whose definitions must-fail edits change.
pub mod Apart
pub mod BindRunsLaws
pub mod CourseRunsLaws
pub mod CourseTapeLaws
pub mod DecidedLaws
pub mod LongerTapeLaws
pub mod ShareLaws
pub mod TapeLaws
