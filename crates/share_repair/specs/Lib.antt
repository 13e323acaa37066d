-- Read Files first, then Repaired, Kept, Made and Whole. Decoded and Judged are for private clauses.
pub mod Files
pub mod Repaired
pub mod Kept
pub mod Made
pub mod Whole
pub mod Decoded
pub mod Judged
