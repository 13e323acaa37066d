-- Read Params, Segments, Ueb and Shares first: how a file is encoded; then Meets and Causes: what a good share is.
pub mod Params
pub mod Segments
pub mod Tags
pub mod Ueb
pub mod Texts
pub mod Shares
pub mod Formed
pub mod Meets
pub mod Causes
pub mod GoodShare
pub mod Uses
pub mod Parts
pub mod Drafts
pub mod Maker
pub mod Readings
