-- Read Binds first; Found is a collision among the strings that it names. BlockHashes is for private clauses.
pub mod BlockHashes
pub mod Binds
pub mod Found
