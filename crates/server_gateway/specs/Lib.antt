-- Independent of each other.
pub mod Filters
pub mod Pages
