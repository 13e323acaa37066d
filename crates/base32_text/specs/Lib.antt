-- Read Base32 first: the text of bytes. Reading says the way back, Refusals why there is none.
pub mod Bits
pub mod Alphabet
pub mod Base32
pub mod Refusals
pub mod Reading
