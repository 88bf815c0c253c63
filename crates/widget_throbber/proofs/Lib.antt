pub mod TurnLemmas
pub mod ThrobberLemmas
pub mod NarrowLemmas
