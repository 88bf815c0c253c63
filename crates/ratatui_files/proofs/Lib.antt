pub mod PathLemmas
pub mod TreeLemmas
pub mod LawLemmas
