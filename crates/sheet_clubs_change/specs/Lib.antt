-- A change of the clubs' sheet: the numbers that it leaves have 16 bits.
pub mod NarrowLaws
