-- The look for the sheet with given slots and size parameter: definitions first, then their laws, and what mending comes to by it.
pub mod Recount
pub mod RecountLaws
pub mod FoundLaws
pub mod MendLaws
