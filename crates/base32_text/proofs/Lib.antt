pub mod BitLemmas
pub mod WaitingLemmas
pub mod AlphabetLemmas
pub mod SpellingLemmas
pub mod ReadingLemmas
pub mod CodingLemmas
