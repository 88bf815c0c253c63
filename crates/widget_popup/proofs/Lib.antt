pub mod PlaceLemmas
pub mod PopupLemmas
