pub mod Rows
pub mod Views
pub mod Engine
pub mod Ending
pub mod Inner
