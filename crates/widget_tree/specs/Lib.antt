pub mod Depths
pub mod Inner
pub mod Moves
pub mod Nodes
pub mod Rows
pub mod TreeStates
pub mod Trees
