mod Blanks
mod Ends
pub mod Leading
pub mod Moving
pub mod Standing
pub mod Advancing
pub mod Running
pub mod Forgotten
pub mod Hosting
