-- Read Known first: what an index knows; then Doubt and Standing: what stands. Looks, Changed and Opened have what calls
-- leave. The rest is for private clauses.
pub mod Changed
pub mod Doubt
pub mod Known
pub mod Looks
pub mod Opened
pub mod SizeLaws
pub mod Sizes
pub mod Standing
pub mod Step
