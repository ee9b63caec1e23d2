-- The size rules: definitions, then their laws, capacities and the fit theorem.
pub mod Sizes
