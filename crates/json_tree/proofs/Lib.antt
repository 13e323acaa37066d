pub mod Begun
pub mod Ends
pub mod Frames
pub mod Held
pub mod Numbers
pub mod PlainTexts
pub mod Parted
