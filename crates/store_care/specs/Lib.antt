-- Independent of each other.
pub mod Places
pub mod Tally
pub mod Files
