pub mod Sets
pub mod Throbbers
