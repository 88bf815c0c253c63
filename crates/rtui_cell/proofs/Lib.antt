pub mod DerivedLemmas
pub mod CellLemmas
pub mod WideLemmas
pub mod WidthLemmas
pub mod MarkLemmas
pub mod NarrowLemmas
