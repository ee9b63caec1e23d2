-- What the conversions of the clubs' counts use.
pub mod ConvertLaws
