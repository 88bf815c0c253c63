pub mod Color
pub mod Modifier
pub mod Style
