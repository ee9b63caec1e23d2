-- What every other crate's definitions and proofs use: choices by a comparison, tests and lists.
pub mod Cases
pub mod Lists
pub mod CaseLaws
pub mod BoolLaws
pub mod ListLaws
