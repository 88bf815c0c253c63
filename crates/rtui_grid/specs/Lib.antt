pub mod Items
pub mod Blocks
