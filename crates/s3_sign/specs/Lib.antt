-- Read SignedHead first, and then what it is made of.
pub mod Instants
pub mod Spelling
pub mod CanonicalRequest
pub mod StringToSign
pub mod SigningKey
pub mod SignedHead
