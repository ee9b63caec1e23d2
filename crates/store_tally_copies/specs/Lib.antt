-- Tallies that are the counts.
pub mod CopyLaws
