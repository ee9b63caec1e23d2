-- A change of a plain sheet: definitions first, then the laws.
pub mod Made
pub mod PlainReady
pub mod TallyLaws
