-- Read Netstring, Tagged and Pair first; Use and Collisions are the premise. Lanes is how the code computes the same.
pub mod Collisions
pub mod Decimal
pub mod Faults
pub mod Netstring
pub mod NetstringAt
pub mod Pair
pub mod Tagged
pub mod TagHasher
pub mod Use
pub mod Lanes
