-- The laws of this crate whose definitions must-fail edits change.
pub mod GatherLoop
pub mod LayoutLaws
pub mod LeafLaws
pub mod LeafLoop
pub mod LeavesLoop
pub mod QuotientLaws
pub mod SheetLaws
