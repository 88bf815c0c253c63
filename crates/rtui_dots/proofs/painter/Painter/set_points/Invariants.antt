use Rattle.std.proofs.Common.{◌≡◌, drop}
use Rattle.rtui_dots.specs.Grids.{with_dots}
use Rattle.rtui_dots.specs.Shapes.{point_dots}
use Rattle.rtui_dots.proofs.painter.Painter.set_points.Given as goal

abbrev pub invariant-loop-point : goal.invariant-loop-point
invariant-loop-point l = record {
  scale : l.self.scale ≡ l.fn.self.scale;
  dots : with_dots l.fn.self.scale (point_dots l.fn.self.scale l.color (drop l.point-index l.coords)) l.self.cells.items
      ≡ with_dots l.fn.self.scale (point_dots l.fn.self.scale l.color l.coords) l.fn.self.cells.items;
}
