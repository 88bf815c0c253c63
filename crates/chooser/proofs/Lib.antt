pub mod SettlingLemmas
pub mod RunLemmas
