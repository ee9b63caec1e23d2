-- The layout of a sheet: definitions first, then their laws.
pub mod Leaf
pub mod Layout
pub mod Sheet
pub mod Decode
pub mod Room
pub mod Ready
pub mod Quotient
pub mod Pass
pub mod Examples
pub mod NumberedLaws
pub mod RoomLaws
pub mod EmptyLaws
pub mod EntryLaws
