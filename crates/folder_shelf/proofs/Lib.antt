pub mod Seals
pub mod Spelled
pub mod Fields
pub mod Apart
pub mod Parts
