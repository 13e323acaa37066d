pub mod WithinLemmas
pub mod DashLemmas
