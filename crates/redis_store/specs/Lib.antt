-- Read GridText and Strange for whose a server is and Keys for where a share stands, then Exchanges, Told and Ahead:
-- what a connection was told and what came, and Put. Commands, Replies and Answers are its bytes. AfterExchange says how a
-- connection is left. Engine is what a server is assumed to do, and EngineShares what is seen of shares then.
pub mod Keys
pub mod GridText
pub mod Strange
pub mod Commands
pub mod Replies
pub mod Exchanges
pub mod Answers
pub mod Told
pub mod Put
pub mod Ahead
pub mod AfterExchange
pub mod Engine
pub mod EngineShares
