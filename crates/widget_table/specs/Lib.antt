pub mod Rows
pub mod TableStates
pub mod Tables
pub mod Inner
pub mod SettledTables
