pub mod Constraint
pub mod Layout
pub mod Names
pub mod Spacing
