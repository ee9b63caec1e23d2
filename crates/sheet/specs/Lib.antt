-- What the program holds.
pub mod Within
