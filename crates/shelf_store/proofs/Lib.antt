pub mod Doubts
pub mod Forgetting
pub mod Opens
pub mod Sizes
pub mod Steps
pub mod Changes
