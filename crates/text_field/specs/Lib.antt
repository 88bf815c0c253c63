pub mod Reach
pub mod Field
pub mod Inner
pub mod Keys
pub mod History
