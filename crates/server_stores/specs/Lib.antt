-- Independent of each other, but for Opened, which cites Prefix.
pub mod Differences
pub mod Kinds
pub mod Opened
pub mod Prefix
pub mod Shared
pub mod FolderLook
pub mod Status
