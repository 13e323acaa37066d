-- Read Text, Command and Lines for the language of scripts, Script and Replies for what is answered;
-- Serving, Running and Turns for the program.
pub mod Text
pub mod Command
pub mod Lines
pub mod Reading
pub mod Script
pub mod Stores
pub mod Serving
pub mod Replies
pub mod Running
pub mod Arguments
pub mod Status
pub mod Turns
