use Rattle.ratatui_core.proofs.WidgetLemmas.{holds_anyway}
use Rattle.widget_boxes.proofs.FrameLemmas.{frame-alone, frame-filled, frame-within}
use Rattle.widget_list.specs.Items.{ShowsList}
use Rattle.widget_list.proofs.list.RefListStatefulWidget.render.Goals as goal

pub returns-in_default-clause-ok : goal.returns-in_default-clause-ok
returns-in_default-clause-ok c =
    frame-alone c.args.self.now.style c.args.self.now.block
    (ShowsList c.args.self.now) c.args.state.now c.args.area c.args.buf.now
    c.render_frame.new.buf c.render_frame.ensures.within (rw c.in_default.is at c.in_ok-inner.ensures.inner)

pub returns-clause-ok : goal.returns-clause-ok
returns-clause-ok c =
    frame-filled c.args.self.now.style c.args.self.now.block c.args.area c.in-Some.inner c.args.buf.now c.render_frame.new.buf
    c.draw_list.new.buf (rw c.in-Some.is at c.in_ok-inner.ensures.inner) (ShowsList c.args.self.now)
    c.args.state.now c.draw_list.new.state c.draw_list.result c.draw_list.ensures.within c.draw_list.ensures.ok

pub returns-clause-err : goal.returns-clause-err
returns-clause-err c =
    holds_anyway c.draw_list.result
    (frame-within c.args.self.now.style c.args.self.now.block c.args.area c.in-Some.inner c.args.buf.now c.render_frame.new.buf
    c.draw_list.new.buf (rw c.in-Some.is at c.in_ok-inner.ensures.inner) c.draw_list.ensures.within)
