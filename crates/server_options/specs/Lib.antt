-- Each by itself, but for Missing, which cites Folders, Given, which cites Shares, and Named, which cites Shares and Size.
pub mod Shares
pub mod Size
pub mod Given
pub mod Folders
pub mod Missing
pub mod Named
pub mod Handles
pub mod Logging
pub mod Listening
pub mod CommandLine
-- Over all of them.
pub mod Asked
