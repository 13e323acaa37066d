pub mod BeginningLemmas
pub mod FieldLemmas
pub mod StoredLemmas
pub mod ReadingLemmas
pub mod NumberLemmas
pub mod ParserLemmas
