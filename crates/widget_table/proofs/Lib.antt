pub mod ViewLemmas
pub mod PartLemmas
pub mod NarrowTableLemmas
pub mod ShownRowLemmas
pub mod SettledTableLemmas
pub mod BodyLemmas
pub mod ApartPartLemmas
pub mod ApartTableLemmas
