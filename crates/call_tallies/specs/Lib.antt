-- The tallies of a sheet tested and written: definitions first, then their laws.
pub mod Ready
pub mod WriteLaws
pub mod TestLaws
