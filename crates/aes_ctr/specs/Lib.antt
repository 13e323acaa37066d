-- Read Cipher and what stands above it, then Keystream and Crypt. Planes, Circuit and Exchanges are how the code computes the same.
pub mod Field
pub mod SBox
pub mod State
pub mod Rounds
pub mod KeyExpansion
pub mod Cipher
pub mod Keystream
pub mod Crypt
pub mod Planes
pub mod Circuit
pub mod Exchanges
