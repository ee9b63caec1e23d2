-- Whole histories of the federation's sheets, plain ones and timed ones each apart.
pub mod Clause
pub mod TimedClause
