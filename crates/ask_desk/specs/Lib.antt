-- Read Asks for what is asked and CameIn for what is a reply, then Dialogue and Past: what was told, what came, and what each
-- call adds. After says how a desk stands once all that happened; Kept and Reading are what it holds, for private clauses.
pub mod Asks
pub mod CameIn
pub mod Dialogue
pub mod Past
pub mod Kept
pub mod Reading
pub mod After
