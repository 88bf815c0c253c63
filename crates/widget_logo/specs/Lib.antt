pub mod Logos
pub mod Mascots
