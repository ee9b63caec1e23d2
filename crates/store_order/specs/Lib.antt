-- The order in which the counts of the ranges stand in a store.
pub mod Occurs
pub mod TreeOrder
pub mod Copied
pub mod CountOrder
pub mod Places
pub mod TreeReady
pub mod OccursLaws
pub mod CopiedLaws
pub mod PlacesLaws
pub mod RestCopiedLaws
pub mod Examples
