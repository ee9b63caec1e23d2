-- The laws of this crate whose definitions must-fail edits change.
pub mod Capacity
pub mod Fit
pub mod SizeLaws
