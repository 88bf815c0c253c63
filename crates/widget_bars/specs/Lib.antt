pub mod BarAreas
pub mod BarCharts
pub mod Inner
