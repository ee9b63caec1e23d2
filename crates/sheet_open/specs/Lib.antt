-- The look at a plain store: what it leaves, then the laws of its lengths, and of its test of the tallies.
pub mod PlainOpening
pub mod LengthLaws
pub mod PlainOpeningLaws
pub mod TestedLaws
