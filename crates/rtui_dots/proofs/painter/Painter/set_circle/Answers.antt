use Rattle.std.proofs.Common.{◌≡◌, suc, ◌-◌, ◌+◌, ◌∙◌, sym, arith}
use Rattle.rtui_dots.proofs.CircleLemmas.{next-degree, no-degrees}
use Rattle.rtui_dots.proofs.painter.Painter.set_circle.Goals as goal

pub loop-degrees-preserved : goal.loop-degrees-preserved
loop-degrees-preserved c =
    let more : 360 - c.loop-degrees.degrees ≡ suc (360 - (c.loop-degrees.degrees + 1)) = omega arith in
    record {
      scale = c.set_degree.ensures.scale ∙ c.loop-degrees.invariant.scale;
      dots = next-degree c.args.self.now.scale c.args.circle.now c.loop-degrees.degrees _ _ c.loop-degrees.self
          c.set_degree.new.self _ more c.loop-degrees.invariant.scale c.set_degree.ensures c.loop-degrees.invariant.dots;
    }

pub returns : goal.returns
returns c =
    let none : 360 - c.loop-degrees.degrees ≡ 0 = omega arith in
    record {
      cells = sym (no-degrees c.args.self.now.scale c.args.circle.now c.loop-degrees.degrees _ c.loop-degrees.self.cells.items
          none) ∙ c.loop-degrees.invariant.dots;
      scale = c.loop-degrees.invariant.scale;
    }
