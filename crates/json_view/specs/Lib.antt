-- Read Nodes; the texts are of Strings and Values.
pub mod Strings
pub mod Nodes
pub mod KeptSpellings
pub mod Listings
pub mod Counts
pub mod Values
