pub mod Filling
pub mod Rows
pub mod Insertion
pub mod Following
pub mod Scrolling
pub mod Remaining
