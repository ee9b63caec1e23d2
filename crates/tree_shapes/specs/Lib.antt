-- Every shape that N entries can have, in order (document 02, F-12): definitions first, then their laws.
pub mod Shapes
pub mod HowMany
pub mod Order
pub mod Words
pub mod HowManyLaws
pub mod ShapesLaws
pub mod OrderLaws
pub mod CountLaws
pub mod MemberLaws
pub mod WordsLaws
pub mod RootLaws
pub mod SumLaws
pub mod SmallLaws
pub mod Examples
