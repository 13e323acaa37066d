-- Read Moves first. Steps is for private clauses.
pub mod Moves
pub mod Steps
