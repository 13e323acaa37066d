pub mod WalkLemmas
pub mod WayLemmas
pub mod SoughtSteps
pub mod Amid
