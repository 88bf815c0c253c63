use Rattle.ratatui_core.specs.Style.{new_style}
use Rattle.ratatui_core.proofs.WidgetLemmas.{holds_anyway}
use Rattle.widget_boxes.proofs.FrameLemmas.{frame-alone, frame-filled, frame-within}
use Rattle.widget_canvas.specs.Kept.{ShowsKept}
use Rattle.widget_canvas.proofs.canvas.RefCanvasStatefulWidget.render.Goals as goal

pub returns-in_default-clause-ok : goal.returns-in_default-clause-ok
returns-in_default-clause-ok c =
    frame-alone new_style c.args.self.now.block (ShowsKept c.args.self.now) c.args.state.now c.args.area c.args.buf.now
    c.render_frame.new.buf c.render_frame.ensures.within (rw (c.new.ensures, c.in_default.is) at c.in_ok-inner.ensures.inner)

pub returns-clause-ok : goal.returns-clause-ok
returns-clause-ok c =
    frame-filled new_style c.args.self.now.block c.args.area c.in-Some.inner c.args.buf.now c.render_frame.new.buf
    c.render_canvas.new.buf (rw (c.new.ensures, c.in-Some.is) at c.in_ok-inner.ensures.inner) (ShowsKept c.args.self.now)
    c.args.state.now c.render_canvas.new.state c.render_canvas.result c.render_canvas.ensures.within c.render_canvas.ensures.ok

pub returns-clause-err : goal.returns-clause-err
returns-clause-err c =
    holds_anyway c.render_canvas.result
    (frame-within new_style c.args.self.now.block c.args.area c.in-Some.inner c.args.buf.now c.render_frame.new.buf
    c.render_canvas.new.buf (rw (c.new.ensures, c.in-Some.is) at c.in_ok-inner.ensures.inner) c.render_canvas.ensures.within)
