-- What the answer to an insert or a delete comes to.
pub mod ChangeLaws
