-- Read Shares first, then Put, Looked, NumberedShares, History and Shared. Stored and the laws are how the maps are kept; Schedule, Answering,
-- Changes and Script are of the stores that tests use.
pub mod Answering
pub mod Changes
pub mod History
pub mod Looked
pub mod MapLaws
pub mod NumberedShares
pub mod Numbers
pub mod Put
pub mod Schedule
pub mod Script
pub mod Shared
pub mod Shares
pub mod SizeLaws
pub mod Stored
pub mod Toggle
pub mod Toggles
