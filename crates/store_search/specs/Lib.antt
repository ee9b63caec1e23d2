-- The search for a key: definitions first, then their laws.
pub mod Sought
pub mod LeafFor
pub mod LeafLoop
pub mod Descent
pub mod Searchable
pub mod LeafLoopLaws
pub mod LeafForLaws
pub mod DescentLaws
pub mod SoughtLaws
