pub mod CutLemmas
pub mod GraphemeLemmas
pub mod PartLemmas
pub mod SkipLemmas
pub mod FrontLemmas
pub mod RowLemmas
pub mod LineLemmas
pub mod ShownLemmas
