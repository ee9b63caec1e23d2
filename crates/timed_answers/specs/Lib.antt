-- What the calls come to on a timed store of any capacity: what a change is given, then the laws.
pub mod RankedReady
pub mod ChangeLaws
pub mod SheetLaws
pub mod ClearLaws
pub mod EntryLaws
pub mod QuestionLaws
pub mod MendLaws
