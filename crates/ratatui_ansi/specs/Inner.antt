-- Words that only private contracts use: they follow the code.
pub mod Draw
pub mod Tracker
pub mod Sender
