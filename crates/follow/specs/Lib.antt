pub mod Lines
pub mod Ends
pub mod Shown
pub mod Inner
