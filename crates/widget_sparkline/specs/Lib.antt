pub mod Inner
pub mod Levels
pub mod Sparklines
