-- The draw from a tape: its definition, its laws, and that every face has equally many runs of words.
pub mod Draw
pub mod DrawLaws
pub mod LongerTapeLaws
pub mod WordLaws
pub mod Runs
pub mod RunsLaws
pub mod WordsReadLaws
pub mod Examples
