pub mod Lines
pub mod NoMark
