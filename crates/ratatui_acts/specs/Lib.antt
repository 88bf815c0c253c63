pub mod Redraws
pub mod Turns
pub mod Hearing
pub mod Seats
pub mod Runs
pub mod Steps
pub mod Reading
pub mod Endings
