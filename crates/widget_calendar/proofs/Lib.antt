pub mod DayLemmas
pub mod PlaceLemmas
pub mod EventLemmas
pub mod WeekLemmas
pub mod NarrowLemmas
