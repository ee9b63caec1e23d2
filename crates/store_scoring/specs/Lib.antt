-- Retired and scoring boats: definitions first, then their laws.
pub mod Scoring
pub mod ScoringLaws
