-- Trees of balance ranks and the rules of insert and delete: definitions first, then their laws.
pub mod Tree
pub mod Compare
pub mod Rules
pub mod ChangeList
pub mod Step
pub mod Swap
pub mod Moves
pub mod ChangeLaws
pub mod ChangeListLaws
pub mod Examples
