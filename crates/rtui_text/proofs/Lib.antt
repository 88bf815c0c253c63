pub mod GraphemeLemmas
pub mod PrintableLemmas
pub mod LineLemmas
pub mod BreakLemmas
pub mod TableLemmas
pub mod ApartLemmas
pub mod RestLemmas
pub mod FrontLemmas
