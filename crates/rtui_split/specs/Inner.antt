-- Words that only private contracts use: they follow the code.
pub mod Lanes
pub mod Runs
pub mod Shares
pub mod Slots
pub mod Spaces
