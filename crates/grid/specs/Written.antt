-- What a writer holds after a write that may have stopped.
pub use Rattle.octets.specs.Written.{WritesBeginning}
