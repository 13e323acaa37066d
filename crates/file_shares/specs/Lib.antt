-- Row, Bound and Fit first: what stands of a file, which bytes a read cap binds, and which are found.
-- Gathered and Taken are what they are built of.
pub mod Numbers
pub mod KeyTag
pub mod Row
pub mod Check
pub mod Fit
pub mod Gathered
pub mod Taken
pub mod Bound
pub mod Downloads
pub mod Sources
pub mod Encoder
pub mod Prepared
pub mod Ahead
