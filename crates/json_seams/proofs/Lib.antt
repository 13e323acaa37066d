pub mod Operators
pub mod Words
pub mod Contents
pub mod Lexing
pub mod Punctuated
pub mod Joined
pub mod Found
pub mod Turns
