pub mod Chained
pub mod FilledLemmas
pub mod Injective
pub mod Levels
pub mod Members
pub mod NodeLists
pub mod Padded
pub mod Paths
