-- Mending a spoiled sheet: definitions first, then their laws.
pub mod Mending
pub mod Views
