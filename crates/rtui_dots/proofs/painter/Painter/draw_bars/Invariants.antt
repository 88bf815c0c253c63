use Rattle.std.proofs.Common.{◌≡◌, drop}
use Rattle.rtui_dots.specs.Grids.{with_dots}
use Rattle.rtui_dots.specs.Shapes.{dots_of_columns}
use Rattle.rtui_dots.proofs.painter.Painter.draw_bars.Given as goal

abbrev pub invariant-loop-point : goal.invariant-loop-point
invariant-loop-point l = record {
  scale : l.self.scale ≡ l.fn.self.scale;
  dots : with_dots l.fn.self.scale (dots_of_columns (drop l.point-index l.coords) l.color l.fn.self.scale) l.self.cells.items
      ≡ with_dots l.fn.self.scale (dots_of_columns l.coords l.color l.fn.self.scale) l.fn.self.cells.items;
}
