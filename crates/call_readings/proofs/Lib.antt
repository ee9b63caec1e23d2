-- The laws of this crate whose definitions must-fail edits change.
pub mod BoardLaws
pub mod ReadingLaws
pub mod WrittenLaws
