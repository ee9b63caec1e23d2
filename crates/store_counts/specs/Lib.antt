-- What the code that reads and writes the counts of a store uses.
pub mod WholeLaws
