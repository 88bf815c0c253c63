pub mod RowLemmas
pub mod ViewLemmas
pub mod StatusLemmas
pub mod LogLemmas
