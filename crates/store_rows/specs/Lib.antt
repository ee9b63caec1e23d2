-- Where the numbers of some rows stand in a store: definitions first, then their laws.
pub mod Above
pub mod Row
pub mod Within
pub mod WithinLaws
pub mod RowLaws
