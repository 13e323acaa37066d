-- Read Steps first, over State and Parts; then Run, Served and Hosted: what flows come to for a gateway.
pub mod Parts
pub mod Faults
pub mod State
pub mod Led
pub mod Brought
pub mod Steps
pub mod Flowed
pub mod Run
pub mod Served
pub mod Hosted
