-- Read Asked first: what a folder's file system was asked for each answer. Tags is whose an unfinished file is.
pub mod Asked
pub mod Tags
