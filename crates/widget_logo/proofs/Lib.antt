pub mod NarrowLemmas
