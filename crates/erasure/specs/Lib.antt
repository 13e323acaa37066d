-- Read Code first, over Polynomial; Blocks is the same as a function. Tables is for private clauses.
pub mod Polynomial
pub mod Code
pub mod Tables
pub mod Blocks
pub mod Given
pub mod Size
