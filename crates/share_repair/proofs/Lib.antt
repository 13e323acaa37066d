mod Fronts
mod Decodes
mod Givens
mod Determined
pub mod Leaving
pub mod Keeping
pub mod Putting
