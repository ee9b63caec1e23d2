-- The ranks of a notice board: definitions first, then their laws.
pub mod Board
pub mod BoardLaws
