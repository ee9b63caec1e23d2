-- The ranges, the counts of a shape, the part that a change is confined to and a range rebuilt: definitions first, then their laws.
pub mod Ranges
pub mod Counts
pub mod Confined
pub mod Rebuild
pub mod RangeLaws
pub mod CountLaws
pub mod ShapeCountLaws
pub mod RebuildLaws
