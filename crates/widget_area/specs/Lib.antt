pub mod Columns
pub mod Wraps
pub mod Windows
pub mod TextAreas
pub mod Inner
pub mod PlaceRows
