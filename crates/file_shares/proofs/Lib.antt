pub mod Tools
pub mod Sealed
pub mod Goods
pub mod Lengths
pub mod Pieces
pub mod Segments
pub mod Sound
pub mod Fitting
pub mod ByNumber
mod Counts
mod EncoderSteps
mod Verified
