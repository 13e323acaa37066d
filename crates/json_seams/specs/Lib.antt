-- Read Modes, then Cuts; the tokens at a cut are of Seams.
pub mod Modes
pub mod Cuts
pub mod Seams
pub mod Standings
