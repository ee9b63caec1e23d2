-- Keys: definitions first, then their laws.
pub mod Key
pub mod Passed
pub mod KeyLaws
pub mod PassedLaws
pub mod Examples
