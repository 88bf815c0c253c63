pub mod Offsets
pub mod Places
pub mod Contents
pub mod ScrollViews
pub mod Inner
