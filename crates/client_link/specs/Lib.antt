-- Independent of each other.
pub mod Paces
pub mod Faults
pub mod Sent
