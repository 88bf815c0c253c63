pub mod OffsetLemmas
pub mod PlaceLemmas
pub mod WindowLemmas
pub mod BarLemmas
pub mod ScrollViewLemmas
pub mod SettledViewLemmas
pub mod SettledStateLemmas
