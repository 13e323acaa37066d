-- Read Secrets and Table first: what the loop does to the gateway; then Peers.
pub mod Peers
pub mod Secrets
pub mod Table
pub mod Events
