-- Readings: adjacent ones (document 02, F-10), and those of a board (F-9): definitions first, then their laws.
pub mod Reading
