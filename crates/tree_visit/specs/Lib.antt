-- The rule at one range: definitions first, then their laws.
pub mod Visit
pub mod VisitLaws
