-- A line of bytes read as a frame: its definition, its laws, and written lines.
pub mod Frame
pub mod FrameLaws
pub mod CutLaws
pub mod Examples
