-- The starred cases of document 01 as one table.
pub mod Text
pub mod Marks
pub mod MarksHold
