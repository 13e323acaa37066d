-- Read Late and Memory first: when a peer's time is over, and who waits for memory. Stopwatch cites Latencies; Foreign and
-- Bearer are of control requests.
pub mod Late
pub mod Memory
pub mod Latencies
pub mod Stopwatch
pub mod Journal
pub mod Arrivals
pub mod Listeners
pub mod Foreign
pub mod Bearer
pub mod PeerAddress
