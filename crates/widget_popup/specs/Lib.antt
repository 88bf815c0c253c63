pub mod Places
pub mod Popups
