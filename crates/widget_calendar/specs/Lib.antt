pub mod Days
pub mod Events
pub mod Calendars
