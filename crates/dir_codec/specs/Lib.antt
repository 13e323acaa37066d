-- Read DirectoryText first, over Names and Entries; then Reading and Faults, Find and Sought.
pub mod Names
pub mod Entries
pub mod DirectoryText
pub mod Parts
pub mod Reading
pub mod First
pub mod Faults
pub mod Find
pub mod Sought
pub mod Cuts
