use Rattle.std.proofs.Common.{pos, ◌∙◌}
use Rattle.rtui_dots.proofs.GridLemmas.{next-point}
use Rattle.rtui_dots.proofs.painter.Painter.set_points.Goals as goal

pub loop-point-preserved : goal.loop-point-preserved
loop-point-preserved c = record {
  scale = c.set_point.ensures.scale ∙ c.loop-point.invariant.scale;
  dots = next-point c.args.self.now.scale c.args.color c.args.coords.now c.loop-point.point-index (
    pos 0,
    pos 0,
  ) c.loop-point.self c.set_point.new.self _ c.loop-point-test.true c.loop-point.invariant.scale c.set_point.ensures
      c.loop-point.invariant.dots;
}
