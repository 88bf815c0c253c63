pub mod CanvasLemmas
pub mod NarrowCanvasLemmas
pub mod NarrowPixelLemmas
pub mod RunLemmas
pub mod KeptLemmas
