-- Read in this order: what a cap holds, its text, and then how a text is read.
pub mod Fields
pub mod Kinds
pub mod CapTexts
pub mod Beginnings
pub mod Refusals
pub mod Reading
pub mod Steps
pub mod StorageIndex
pub mod Weakening
