-- What a change asks of the counts, and that its steps meet the rule: definitions first, then the laws.
pub mod Update
pub mod UpdateLaws
