-- The test of leaves: definitions first, then their laws.
pub mod Ready
pub mod Check
pub mod LeafCheck
pub mod LeavesCheck
pub mod LeavesLaws
pub mod MaskCheck
