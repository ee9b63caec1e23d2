-- The laws of this crate whose definitions must-fail edits change.
pub mod CompareLaws
pub mod DrawBounds
pub mod MoveLaws
pub mod ShapeLaws
