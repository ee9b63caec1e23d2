-- The laws of this crate whose definitions must-fail edits change.
pub mod AcceptedLaws
pub mod ClubsLaws
pub mod FederationLaws
pub mod PlainLaws
pub mod SliceLaws
pub mod UntalliedLaws
