pub mod WindowLemmas
pub mod ItemLemmas
pub mod NarrowListLemmas
pub mod ShownLemmas
pub mod SettledLemmas
pub mod SettledFrameLemmas
pub mod ApartListLemmas
