pub mod Key
pub mod Event
pub mod Names
pub mod Texts
pub mod Parsing
