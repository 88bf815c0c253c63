pub mod NarrowBarLemmas
pub mod ScrollbarLemmas
pub mod SetLemmas
pub mod ThumbLemmas
