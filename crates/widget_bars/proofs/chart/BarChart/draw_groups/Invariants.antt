use Rattle.std.proofs.Common.{◌<◌, drop}
use Rattle.rtui_drawing.{specs.Drawings.IsPartOf, proofs.Laws.Continues}
use Rattle.widget_bars.specs.{BarCharts.groups_from, Inner.cells_across}
use Rattle.widget_bars.proofs.chart.BarChart.draw_groups.Given as goal

abbrev pub invariant-loop-group : goal.invariant-loop-group
invariant-loop-group l = record {
  across : 0 < cells_across l.fn.self.direction l.left;
  part : IsPartOf l.buf.area l.left;
  rest : Continues (groups_from l.fn.self l.left (drop l.group-index l.fn.self.groups.items)) l.left
      (groups_from l.fn.self l.fn.area l.fn.self.groups.items) l.fn.area l.fn.buf l.buf;
}
