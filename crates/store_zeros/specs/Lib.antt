-- Lists of zeros: the test first, then its laws.
pub mod AllZero
pub mod ZeroLaws
pub mod SameLaws
