pub mod Lists
pub mod Digits
pub mod Talks
pub mod Puts
pub mod EngineReplies
pub mod Listed
pub mod EngineViews
pub mod EngineMet
