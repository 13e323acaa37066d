pub mod Rules
pub mod Verbs
pub mod Given
