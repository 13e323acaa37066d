pub mod MovedRuns
