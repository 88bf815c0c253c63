pub mod Printed
pub mod Inner
