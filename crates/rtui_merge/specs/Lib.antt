pub mod Arms
pub mod Symbols
pub mod Shapes
pub mod Merge
pub mod Laws
