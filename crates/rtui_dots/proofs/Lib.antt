pub mod GridLemmas
pub mod LineLemmas
pub mod CircleLemmas
pub mod CosineLemmas
