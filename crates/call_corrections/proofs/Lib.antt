-- The laws of this crate whose definitions must-fail edits change.
pub mod Corrections
pub mod TimedCorrections
pub mod InsertOrders
pub mod TimedInsertOrders
