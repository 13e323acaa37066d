-- Read Command for what is sent, Spelled and Verdict for what comes.
pub mod Command
pub mod Spelled
pub mod Reading
pub mod Verdict
