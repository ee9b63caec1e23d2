-- The walk down a tree: definitions first, then its laws.
pub mod Updated
pub mod Walk
pub mod WalkLaws
