pub mod AreaLemmas
pub mod LabelLemmas
pub mod LogLemmas
pub mod RenewLemmas
pub mod GaugeLemmas
