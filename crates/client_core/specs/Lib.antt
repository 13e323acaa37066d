-- Read Way first: what a walk over a gateway rests on; Given says what is made of an answer.
-- Asks and ChildrenJson say what is sent.
pub mod Asks
pub mod ChildrenJson
pub mod Way
pub mod Given
