-- Read Checks; the texts are of Values.
pub mod Checks
pub mod Values
