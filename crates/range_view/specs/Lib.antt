-- Read Asked, then Resolved.
pub mod Asked
pub mod Resolved
