pub mod BlockLemmas
pub mod ColumnLemmas
pub mod LevelLemmas
pub mod SparklineLemmas
