pub mod ChangeLemmas
pub mod LetterLemmas
pub mod NarrowLemmas
pub mod PixelLemmas
