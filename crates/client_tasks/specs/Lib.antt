-- Independent of each other.
pub mod Causes
pub mod Jobs
pub mod Had
pub mod State
pub mod Patience
pub mod Lines
pub mod Places
pub mod Urls
pub mod Puts
pub mod Rates
