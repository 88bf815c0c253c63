pub mod MeterLemmas
pub mod SettledLemmas
pub mod WholeLemmas
