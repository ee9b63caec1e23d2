-- Numbers of the ranges of a sheet that add up from the leaves: definitions first, then their laws.
pub mod Range
pub mod Numbers
pub mod Updating
pub mod TreeIn
pub mod IsRangeLaws
pub mod SumLaws
pub mod UpdatingLaws
pub mod AddUpLaws
pub mod SmallLaws
pub mod KeptLaws
pub mod PlacedLaws
pub mod LaidLaws
