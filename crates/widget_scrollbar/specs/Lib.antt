pub mod Scrollbars
pub mod Inner
pub mod Names
