-- What the lines that end in a chunk of the input come to, and a whole input that comes in chunks.
pub mod Chunk
pub mod Input
pub mod ChunkLaws
pub mod InputLaws
pub mod OutputLaws
