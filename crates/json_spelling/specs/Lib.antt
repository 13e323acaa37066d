-- Read Metadata first, then Sound and Spelled, Speller and Judge; the rest is on texts that are read in steps.
pub mod Metadata
pub mod Sound
pub mod Spelled
pub mod Speller
pub mod Judge
pub mod CommaSearch
pub mod TokenPieces
pub mod PieceReaders
pub mod MetadataSpellers
pub mod Judging
