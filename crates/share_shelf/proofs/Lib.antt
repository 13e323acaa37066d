pub mod Histories
pub mod Inside
pub mod Moments
