pub mod ViewLemmas
pub mod MaskLemmas
pub mod PaintLemmas
pub mod ShownLemmas
pub mod PlainLemmas
pub mod ShortLemmas
