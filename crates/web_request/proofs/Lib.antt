pub mod TargetLemmas
pub mod RangeLemmas
pub mod RequestLemmas
pub mod TableLemmas
pub mod FaultLemmas
