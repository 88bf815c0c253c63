pub mod Lists
pub mod Numbers
pub mod Parts
pub mod Places
pub mod PositionTests
