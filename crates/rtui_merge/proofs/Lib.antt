pub mod FindLemmas
pub mod StyleLemmas
pub mod SymbolsLemmas
pub mod ArmsLemmas
pub mod TableLemmas
pub mod MergeLemmas
pub mod LawLemmas
