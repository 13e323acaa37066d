pub mod Bits
pub mod Field
pub mod LaneSteps
pub mod Powers
pub mod Steps
