-- The laws of this crate whose definitions must-fail edits change.
pub mod Clause
pub mod Independence
pub mod PlainSupply
pub mod Shares
pub mod Supply
pub mod TapeRunsLaws
pub mod ClubSheets
pub mod NextSheet
pub mod SingleCalls
