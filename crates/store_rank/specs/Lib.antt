-- The leaf of an entry by its rank: definitions first, then their laws.
pub mod LeafOf
pub mod Descent
pub mod LeafOfLaws
pub mod DescentLaws
