-- An insert or a delete that no cause before 7 refuses.
pub mod SheetChange
pub mod SheetChangeLaws
pub mod WriteLaws
