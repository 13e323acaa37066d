pub mod Builders
pub mod Parts
pub mod Writers
pub mod Remains
