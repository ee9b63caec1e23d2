-- Timed sheets: definitions first, then their laws.
pub mod Timed
