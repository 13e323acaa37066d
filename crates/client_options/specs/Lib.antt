pub mod CommandLine
-- Over it.
pub mod Asked
