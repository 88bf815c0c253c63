pub mod ListLemmas
pub mod WordLemmas
pub mod ReachLemmas
pub mod TypedLemmas
pub mod FieldLemmas
pub mod LawLemmas
pub mod HistoryLemmas
