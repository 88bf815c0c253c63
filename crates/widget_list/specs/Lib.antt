pub mod Windows
pub mod States
pub mod Items
pub mod Settled
pub mod Names
