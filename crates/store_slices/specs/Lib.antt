-- What single steps on slices come to: definitions first, then their laws.
pub mod Changed
pub mod Pasted
pub mod Reading
pub mod ChangedLaws
pub mod PastedLaws
pub mod ReadLaws
