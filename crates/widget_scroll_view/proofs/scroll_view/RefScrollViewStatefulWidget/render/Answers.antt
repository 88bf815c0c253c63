use Rattle.std.proofs.Common.{sym, subst}
use Rattle.ratatui_core.proofs.WidgetLemmas.{holds_anyway}
use Rattle.widget_scroll_view.specs.ScrollViews.{RendersScrollView}
use Rattle.widget_scroll_view.proofs.ScrollViewLemmas.{render-within, render-ok}
use Rattle.widget_scroll_view.proofs.scroll_view.RefScrollViewStatefulWidget.render.Goals as goal

pub returns-in_err-show_content-clause-err : goal.returns-in_err-show_content-clause-err
returns-in_err-show_content-clause-err c =
    holds_anyway c.from_residual-in_err-show_content.result
    (render-within c.args.self.now c.args.state.now c.args.area c.in-Some.part c.args.buf.now c.paint_bars.new.buf c.show_content.new.buf
    c.view_area-view.result c.shown_offset-offset.result c.in-Some.ensures c.view_area-view.ensures.value c.shown_offset-offset.ensures
    c.in_ok-paint_bars.ensures.painted c.in_err-show_content.ensures.err)

pub returns-clause-ok : goal.returns-clause-ok
returns-clause-ok c =
    subst (λ t. RendersScrollView c.args.self.now c.args.state.now t c.args.area c.args.buf.now c.show_content.new.buf)
    (sym c.state_after.ensures)
    (render-ok c.args.self.now c.args.state.now c.args.area c.in-Some.part c.args.buf.now c.paint_bars.new.buf c.show_content.new.buf
    c.view_area-view.result c.shown_offset-offset.result c.in-Some.ensures c.view_area-view.ensures.value c.shown_offset-offset.ensures
    c.in_ok-paint_bars.ensures.painted c.in_ok-show_content.ensures.ok)
