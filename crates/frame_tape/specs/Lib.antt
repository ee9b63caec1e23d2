-- The words of the tape that wait.
pub mod Tape
pub mod TapeLaws
