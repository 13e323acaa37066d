-- Read Walk first; Way is the same over stores of which nothing is known, Amid over stores that others change.
pub mod Walk
pub mod Agree
pub mod Way
pub mod Amid
pub mod Faults
