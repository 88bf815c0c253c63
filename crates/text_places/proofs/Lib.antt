pub mod PlaceLemmas
pub mod LineLemmas
pub mod WalkLemmas
