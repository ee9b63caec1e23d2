-- Whole histories: definitions first, then the theorems.
pub mod History
pub mod HistoryRuns
pub mod TapeRuns
pub mod Words
pub mod HistoryRunsLaws
pub mod CallKeeps
pub mod Refusals
