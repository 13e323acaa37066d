pub mod Turns
pub mod Queues
pub mod Plain
pub mod Browsing
pub mod Sending
