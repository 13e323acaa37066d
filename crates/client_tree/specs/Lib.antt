-- Read Parts first, then Joined, Trees, Placed, Stored and Known. Runs is what several files leave, one after the other. UnderWay is of private clauses.
pub mod FileNames
pub mod Runs
pub mod Parts
pub mod Joined
pub mod Trees
pub mod Placed
pub mod Stored
pub mod Known
pub mod UnderWay
