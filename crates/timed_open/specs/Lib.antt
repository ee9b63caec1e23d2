-- The look at a timed store: what is left of it, then the laws of its lengths, and of its test.
pub mod TimedLook
pub mod LengthLaws
pub mod OpeningLaws
