-- The clubs' store: what is widened, then its laws.
pub mod Widened
pub mod SmallLaws
