-- The third slice after a change of one part: definitions first, then their laws.
pub mod Update
pub mod RightLaws
pub mod UpdateLaws
pub mod KeptLaws
pub mod SheetLaws
