-- The calls of any kind of sheet as C programs make them.
pub mod Handed
pub mod HandedLaws
