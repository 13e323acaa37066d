-- Read Lives and Callers first: runs between crashes, and what callers are told in them. CutOff and Stores say what a crash leaves.
pub mod CutOff
pub mod Resumed
pub mod LeftIn
pub mod Reopened
pub mod Mended
pub mod Stores
pub mod CrashedRuns
pub mod Callers
