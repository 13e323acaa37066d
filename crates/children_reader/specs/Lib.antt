-- Read Children first, then MadeOf and TextMakers; the rest is for private clauses.
pub mod Children
pub mod MadeOf
pub mod Named
pub mod Kept
pub mod Collected
pub mod TextMakers
pub mod MemberReader
pub mod Piecewise
pub mod Taking
pub mod Readings
pub mod Collecting
