-- Read Changes first, then Seen: what stands, and what is seen of it. Looks is of calls, and Parts of gateways.
pub mod Changes
pub mod Seen
pub mod Looks
pub mod Parts
