pub mod ItemLemmas
pub mod PlaceLemmas
pub mod MoveLemmas
pub mod BlockLemmas
pub mod RangeLemmas
