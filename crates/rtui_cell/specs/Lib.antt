pub mod Symbol
pub mod Stored
pub mod Width
pub mod Look
pub mod Cell
pub mod Equality
pub mod Grid
pub mod Narrow
