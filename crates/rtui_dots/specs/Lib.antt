pub mod Grids
pub mod Lines
pub mod Circles
pub mod Cosines
pub mod Shapes
pub mod Layers
pub mod Inner
