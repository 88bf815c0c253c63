pub mod Areas
pub mod Gauges
pub mod Labels
pub mod Logging
pub mod Restyling
pub mod Renewing
pub mod Badges
pub mod Growing
