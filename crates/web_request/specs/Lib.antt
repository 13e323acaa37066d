-- Read Table first: what a request is, row by row; Requests and Faults say it by order of work.
pub mod Targets
pub mod Queries
pub mod Actions
pub mod Ranges
pub mod Requests
pub mod Table
pub mod Faults
