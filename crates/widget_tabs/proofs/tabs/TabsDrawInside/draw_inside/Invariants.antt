use Rattle.std.proofs.Common.{drop}
use Rattle.rtui_drawing.{specs.Drawings.IsRowIn, proofs.Laws.Continues}
use Rattle.widget_tabs.specs.Tabs.{tabs_from, tabs_drawing}
use Rattle.widget_tabs.proofs.tabs.TabsDrawInside.draw_inside.Given as goal

abbrev pub invariant-loop-k : goal.invariant-loop-k
invariant-loop-k l = record {
  row : IsRowIn l.buf.area l.row;
  rest : Continues (tabs_from l.fn.self l.row.width l.k (drop l.k l.fn.self.titles.items)) l.row
      (tabs_drawing l.fn.self l.fn.inner) l.fn.inner l.fn.buf l.buf;
}
