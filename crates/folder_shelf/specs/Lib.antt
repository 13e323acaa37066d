-- Read Paths and Sealed first: where a share is and what stands in its file. Steps is what the file system is asked.
pub mod Names
pub mod Paths
pub mod Steps
pub mod Sealed
pub mod Unread
pub mod SettingsText
pub mod Refusals
