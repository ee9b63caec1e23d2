-- The third slice of a timed sheet: definitions first, then their laws.
pub mod Balance
pub mod BalanceIn
pub mod Rows
pub mod BalanceLaws
pub mod FirstLaws
pub mod RowLaws
pub mod BalanceInLaws
pub mod Examples
