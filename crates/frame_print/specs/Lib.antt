-- What a print comes to.
pub mod Printed
pub mod PrintLaws
