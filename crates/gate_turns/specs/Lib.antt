-- Read in this order: one seat, its lanes, then all of them together.
pub mod Seat
pub mod Lanes
pub mod Before
pub mod Acceptor
pub mod Acceptors
pub mod Ending
pub mod Turns
pub mod Places
