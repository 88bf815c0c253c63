use Rattle.std.proofs.Common.{◌≡◌, ◌<◌, drop}
use Rattle.rtui_drawing.{specs.Drawings.IsPartOf, proofs.Laws.Continues}
use Rattle.widget_bars.specs.{BarAreas.cells_along, BarCharts.bars_from, BarCharts.after_bars}
use Rattle.widget_bars.specs.Inner.{cells_across, BarsFit}
use Rattle.widget_bars.proofs.chart.BarChart.draw_bars.Given as goal

abbrev pub invariant-loop-bar : goal.invariant-loop-bar
invariant-loop-bar l = record {
  across : 0 < cells_across l.fn.self.direction l.left;
  part : IsPartOf l.buf.area l.left;
  fit : BarsFit l.fn.self (cells_along l.fn.self.direction l.left) (drop l.bar-index l.fn.bars);
  rest : Continues (bars_from l.fn.self l.left (drop l.bar-index l.fn.bars)) l.left
      (bars_from l.fn.self l.fn.area l.fn.bars) l.fn.area l.fn.buf l.buf;
  after : after_bars l.fn.self l.left (drop l.bar-index l.fn.bars) ≡ after_bars l.fn.self l.fn.area l.fn.bars;
}
