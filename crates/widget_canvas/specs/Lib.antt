pub mod Canvases
pub mod Inner
pub mod Kept
