-- The lines that the program answers, bytes written into an output, and that answers and frames are read back as what was written.
pub mod Reply
pub mod Wrote
pub mod WroteLaws
pub mod DigitLaws
pub mod ReadBack
pub mod Examples
