-- The part of a sheet that a change is confined to, laid out anew: definitions first, then their laws.
pub mod Region
pub mod Located
pub mod Plan
pub mod LayPart
pub mod RegionLaws
pub mod LocatedLaws
pub mod PlanLaws
pub mod LayPartLaws
pub mod KeepLaws
pub mod LeavesLaws
pub mod CountBounds
