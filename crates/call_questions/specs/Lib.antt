-- Questions answered by what a store was found to hold: definitions first, then their laws.
pub mod Asked
pub mod StartLaws
pub mod ReadLaws
pub mod BoardLaws
pub mod TalliedLaws
pub mod PlaceLaws
