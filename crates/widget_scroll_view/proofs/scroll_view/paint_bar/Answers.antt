use Rattle.std.proofs.Common.{subst}
use Rattle.widget_scroll_view.specs.ScrollViews.{PaintsBar}
use Rattle.widget_scroll_view.proofs.BarLemmas.{bar-short, bar-painted}
use Rattle.widget_scroll_view.proofs.scroll_view.paint_bar.Goals as goal

pub returns-clause-succeeds : goal.returns-clause-succeeds
returns-clause-succeeds c =
    c.render.ensures.short (bar-short c.args.orientation c.args.area c.new.result c.with_track-bar.result c.new.ensures
    c.with_track-bar.ensures)

pub returns-clause-painted : goal.returns-clause-painted
returns-clause-painted c =
    subst (λ s. PaintsBar c.args.orientation s c.args.area c.args.buf.now c.render.new.buf) c.bar_state-state.ensures
    (bar-painted c.render.result c.args.orientation c.new.result c.bar_state-state.result c.render.new.state c.args.area c.args.buf.now
    c.render.new.buf (c.render.ensures.short (bar-short c.args.orientation c.args.area c.new.result c.with_track-bar.result c.new.ensures
    c.with_track-bar.ensures)) c.new.ensures (rw c.with_track-bar.ensures at c.render.ensures.ok))
