pub mod Commands
pub mod Offers
pub mod Editing
