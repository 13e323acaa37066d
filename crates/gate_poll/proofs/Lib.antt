pub mod Hosts
pub mod Keeping
pub mod LettingGo
pub mod Listening
pub mod Placing
