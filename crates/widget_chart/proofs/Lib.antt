pub mod EachThingLemmas
pub mod NarrowPlotLemmas
pub mod PlotLemmas
pub mod ShortPlotLemmas
