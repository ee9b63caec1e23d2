-- The step that C programs make.
pub mod FrameStep
pub mod FrameStepLaws
