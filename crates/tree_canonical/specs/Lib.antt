-- The canonical distribution of the shapes of N entries, and that insert and delete keep it: definitions first, then their laws.
pub mod Canonical
pub mod SizeSums
pub mod SizeKeeps
pub mod VisitLaws
pub mod WalkKeeps
pub mod ShapeLaws
pub mod UpdateKeeps
pub mod ShapeShare
pub mod ShapeTest
