pub mod Events
pub mod Flags
pub mod Members
