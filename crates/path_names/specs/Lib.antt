-- One file.
pub mod Names
