-- The order of the counts before F-5, and the conversion of a store from it and back.
pub mod Conversion
pub mod NumberOrder
pub mod Converts
pub mod ConvertsLaws
