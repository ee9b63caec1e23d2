-- A session of the program: the calls that its lines ask, and the words that they bring and read.
pub mod Session
pub mod SessionLaws
pub mod SessionHistory
