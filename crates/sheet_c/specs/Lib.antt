-- The conversions as C programs make them.
pub mod HandedCounts
pub mod HandedCountsLaws
