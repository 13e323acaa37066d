pub mod Lists
pub mod Standing
pub mod Caps
pub mod Got
pub mod Items
pub mod Readings
pub mod Telling
