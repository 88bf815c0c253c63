use Rattle.std.proofs.Common.{subst, ◌∙◌}
use Rattle.rtui_geometry.specs.Rect.{EdgesFit}
use Rattle.rtui_widgets.specs.Rendering.{RendersText}
use Rattle.screenplay.proofs.playing.paint.Goals as goal

pub returns-clause-painted : goal.returns-clause-painted
returns-clause-painted c = λ area empty. record {
  edges = subst EdgesFit empty.area c.area-area.ensures.edges;
  blank = c.args.frame.now;
  emptied = empty;
  rendered = c.render.new.buf;
  renders = subst (λ r. RendersText c.args.text.now r c.args.frame.now c.render.new.buf) (c.area-area.ensures.area
      ∙ empty.area) c.in_ok-render.ensures.ok;
  painted = rw c.as_slice.ensures at c.in_ok-set_puts.ensures;
}
