-- The tallies of a sheet: definitions first, then their laws.
pub mod Tallies
pub mod TalliesIn
pub mod TallyTree
pub mod HoldsTallies
pub mod Path
pub mod AdditiveLaws
pub mod LayLaws
pub mod LaidLaws
pub mod NoneLaws
pub mod FollowLaws
pub mod PathLaws
pub mod EntryLaws
