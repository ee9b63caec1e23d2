-- Leaves written by a table: definitions first, then their laws.
pub mod SlotEntries
pub mod Ready
pub mod SlotEntriesLaws
pub mod LeavesTableLaws
