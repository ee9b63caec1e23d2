-- A store looked at for a call, and the causes before 7.
pub mod Opening
pub mod OpeningLaws
pub mod PassedLaws
pub mod ArgumentLaws
pub mod AdmittedLaws
pub mod OpenedLaws
pub mod SliceOpeningLaws
