pub mod Choosing
pub mod ChooserLemmas
pub mod Laws
