-- The laws of this crate whose definitions must-fail edits change.
pub mod CountOrderLaws
pub mod ListedLaws
pub mod PutLaws
pub mod TreeOrderLaws
pub mod TreeReadyLaws
