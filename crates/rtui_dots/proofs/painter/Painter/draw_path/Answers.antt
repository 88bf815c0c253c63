use Rattle.std.proofs.Common.{pos, ◌∙◌}
use Rattle.rtui_dots.proofs.GridLemmas.{next-line}
use Rattle.rtui_dots.proofs.painter.Painter.draw_path.Goals as goal

pub loop-point-preserved : goal.loop-point-preserved
loop-point-preserved c = record {
  scale = c.draw_on.ensures.scale ∙ c.loop-point.invariant.scale;
  dots = next-line c.args.self.now.scale c.args.color c.loop-point.last.now c.args.others.now c.loop-point.point-index (
    pos 0,
    pos 0,
  ) c.loop-point.self c.draw_on.new.self _ c.loop-point-test.true c.loop-point.invariant.scale c.draw_on.ensures
      c.loop-point.invariant.dots;
}
