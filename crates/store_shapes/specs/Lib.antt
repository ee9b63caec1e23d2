-- Every sheet of a list laid out: definitions first, then their laws.
pub mod Ready
pub mod LayLaws
