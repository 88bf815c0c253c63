pub mod Inner
pub mod Paragraphs
pub mod Reflow
