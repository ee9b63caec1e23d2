-- Corrections in either order (document 02, F-10): definitions first, then their laws.
pub mod Accepted
pub mod Exchange
