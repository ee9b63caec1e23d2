-- Boats tied at the line: definitions first, then their laws.
pub mod Groups
pub mod Ties
pub mod Steps
pub mod Examples
pub mod TiesLaws
pub mod StepLaws
pub mod BeforeLaws
pub mod WalkLaws
pub mod SumLaws
pub mod GroupLaws
pub mod PlacingLaws
pub mod ExactLaws
pub mod SlotLaws
