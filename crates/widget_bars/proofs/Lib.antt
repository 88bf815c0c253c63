pub mod ChartLemmas
pub mod NarrowChartLemmas
