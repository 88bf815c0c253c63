pub mod TakingLemmas
pub mod TurnLemmas
pub mod RunLemmas
pub mod ReadingLemmas
pub mod TimeLemmas
pub mod QueueLemmas
pub mod EndingLemmas
