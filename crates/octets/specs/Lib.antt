-- Independent of each other.
pub mod Sharing
pub mod Decimal
pub mod Cut
pub mod Written
pub mod Counted
pub mod Case
