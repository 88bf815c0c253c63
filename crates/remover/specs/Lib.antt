pub mod Removing
pub mod Laws
