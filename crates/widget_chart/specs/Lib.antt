pub mod Charts
pub mod ChartLayouts
pub mod ChartParts
pub mod Legends
pub mod NarrowCharts
pub mod Plots
pub mod ShortCharts
pub mod Inner
