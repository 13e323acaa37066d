-- Read Tags (conditions of requests), Names and Guesses (what a file is called, and taken for).
pub mod Tags
pub mod Names
pub mod Guesses
