-- One file.
pub mod Field
