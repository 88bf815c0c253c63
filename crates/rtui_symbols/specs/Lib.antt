pub mod Marker
pub mod Pixels
pub mod Sets
