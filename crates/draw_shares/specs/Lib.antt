-- Programs that draw, and the share of each value they can end with: definitions first, then their laws.
pub mod Program
pub mod Tape
pub mod Fraction
pub mod Course
pub mod CourseRuns
pub mod Rational
pub mod Same
pub mod ProgramLaws
pub mod CourseTape
pub mod RationalLaws
pub mod Sum
pub mod SameLaws
pub mod CourseLaws
pub mod Reservoir
pub mod Examples
pub mod Apart
