mod AheadLemmas
pub mod ParagraphLemmas
pub mod ReflowLemmas
pub mod RowsLemmas
pub mod BreakLemmas
pub mod CutLemmas
