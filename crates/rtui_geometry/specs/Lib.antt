pub mod Offset
pub mod Rect
pub mod Rows
pub mod Display
