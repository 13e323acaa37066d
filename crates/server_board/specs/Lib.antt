-- Replies cites Asked; Commit and Token cite Line.
pub mod Asked
pub mod Replies
pub mod Line
pub mod Commit
pub mod Token
