mod NumberLemmas
pub mod ResultLemmas
