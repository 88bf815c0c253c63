pub mod Made
pub mod Cells
