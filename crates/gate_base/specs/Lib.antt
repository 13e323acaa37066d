pub mod Requests
pub mod Wire
pub mod Browsers
pub mod Pages
pub mod Setup
pub mod Tallies
pub mod Holds
pub mod Ids
