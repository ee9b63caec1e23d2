-- The slots of a leaf that are taken: definitions first, then their laws.
pub mod Mask
pub mod MaskLaws
pub mod ThirdsLaws
