-- The tests by which code checks a store: definitions first, then their laws.
pub mod Ready
pub mod Check
pub mod TreeCheck
pub mod RangeWords
pub mod LevelCheck
pub mod CheckLaws
pub mod StoreCheck
