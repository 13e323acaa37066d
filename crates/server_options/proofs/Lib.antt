pub mod AskedLemmas
pub mod ByteLemmas
pub mod CommaLemmas
pub mod NumberLemmas
pub mod PairLemmas
pub mod PlaceLemmas
pub mod StoreLemmas
pub mod TextLemmas
