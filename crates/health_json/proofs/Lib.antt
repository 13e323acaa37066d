pub mod Sharemap
pub mod Replies
pub mod Checks
pub mod Ordered
pub mod Mapped
