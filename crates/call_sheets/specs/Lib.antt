-- Every sheet of a list, and their shares (document 02, F-12): definitions first, then their laws.
pub mod Sheets
pub mod SheetsLaws
