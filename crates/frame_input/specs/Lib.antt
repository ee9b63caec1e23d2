-- The lines of an input that comes in chunks: the definitions, their laws, and written inputs.
pub mod Lines
pub mod Chunks
pub mod Examples
