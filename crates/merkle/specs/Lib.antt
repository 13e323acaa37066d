-- Read Tree first; Chain and Leads say what a leaf proves of the root.
pub mod Chain
pub mod Filled
pub mod Height
pub mod Leads
pub mod Node
pub mod Nodes
pub mod Tree
