use Rattle.std.proofs.Common.{pos, ◌∙◌}
use Rattle.rtui_dots.proofs.GridLemmas.{next-bar}
use Rattle.rtui_dots.proofs.painter.Painter.draw_bars.Goals as goal

pub loop-point-preserved : goal.loop-point-preserved
loop-point-preserved c = record {
  scale = c.draw_bar.ensures.scale ∙ c.loop-point.invariant.scale;
  dots = next-bar c.args.self.now.scale c.args.color c.args.coords.now c.loop-point.point-index (
    pos 0,
    pos 0,
  ) c.loop-point.self c.draw_bar.new.self _ c.loop-point-test.true c.loop-point.invariant.scale c.draw_bar.ensures
      c.loop-point.invariant.dots;
}
