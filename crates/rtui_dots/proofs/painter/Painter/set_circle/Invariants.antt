use Rattle.std.proofs.Common.{◌≡◌, ◌-◌}
use Rattle.rtui_dots.specs.Grids.{with_dots}
use Rattle.rtui_dots.specs.Circles.{degrees_from}
use Rattle.rtui_dots.proofs.painter.Painter.set_circle.Given as goal

abbrev pub invariant-loop-degrees : goal.invariant-loop-degrees
invariant-loop-degrees l = record {
  scale : l.self.scale ≡ l.fn.self.scale;
  dots : with_dots l.fn.self.scale (degrees_from l.fn.self.scale l.circle l.degrees (360 - l.degrees)) l.self.cells.items
      ≡ with_dots l.fn.self.scale (degrees_from l.fn.self.scale l.circle 0 360) l.fn.self.cells.items;
}
