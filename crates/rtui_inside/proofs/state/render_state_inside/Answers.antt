use Rattle.widget_boxes.proofs.FrameLemmas.{frame-own}
use Rattle.rtui_inside.proofs.InsideLemmas.{filled-area, filled-err, filled-left, filled-short, filled-state}
use Rattle.rtui_inside.proofs.state.render_state_inside.Goals as goal

pub draw_state_inside-requires-clause-inside : goal.draw_state_inside-requires-clause-inside
draw_state_inside-requires-clause-inside g c =
    frame-own c.args.style c.args.block.now c.args.area c.in-Some.inner c.args.buf.now c.render_frame.new.buf
    c.render_frame.new.buf (rw c.in-Some.is at c.in_ok-inner.ensures.inner)

pub returns-clause-area : goal.returns-clause-area
returns-clause-area g c =
    filled-area c.args.style c.args.block.now c.args.area c.in-Some.inner c.args.buf.now c.render_frame.new.buf
    c.draw_state_inside.new.buf (rw c.in-Some.is at c.in_ok-inner.ensures.inner)
    (g.W.DrawStateInside.drawing c.args.widget.now c.args.state.now) c.draw_state_inside.result c.draw_state_inside.ensures.done

pub returns-clause-ok : goal.returns-clause-ok
returns-clause-ok g c =
    filled-state c.args.style c.args.block.now c.args.area c.in-Some.inner c.args.buf.now c.render_frame.new.buf
    c.draw_state_inside.new.buf (rw c.in-Some.is at c.in_ok-inner.ensures.inner)
    (g.W.DrawStateInside.drawing c.args.widget.now) (g.W.DrawStateInside.next c.args.widget.now) c.args.state.now
    c.draw_state_inside.new.state c.draw_state_inside.result c.draw_state_inside.ensures.done c.draw_state_inside.ensures.next

pub returns-clause-err : goal.returns-clause-err
returns-clause-err g c =
    filled-err c.args.style c.args.block.now c.args.area c.in-Some.inner c.args.buf.now c.render_frame.new.buf
    c.draw_state_inside.new.buf (rw c.in-Some.is at c.in_ok-inner.ensures.inner)
    (g.W.DrawStateInside.drawing c.args.widget.now c.args.state.now) c.draw_state_inside.result c.draw_state_inside.ensures.done

pub returns-clause-left : goal.returns-clause-left
returns-clause-left g c =
    filled-left c.args.style c.args.block.now c.args.area c.in-Some.inner c.args.buf.now c.render_frame.new.buf
    c.draw_state_inside.new.buf (rw c.in-Some.is at c.in_ok-inner.ensures.inner)
    (g.W.DrawStateInside.drawing c.args.widget.now c.args.state.now) c.draw_state_inside.result c.draw_state_inside.ensures.done

pub returns-clause-short : goal.returns-clause-short
returns-clause-short g c =
    filled-short c.args.style c.args.block.now c.args.area c.in-Some.inner c.args.buf.now c.render_frame.new.buf
    c.draw_state_inside.new.buf (rw c.in-Some.is at c.in_ok-inner.ensures.inner)
    (g.W.DrawStateInside.drawing c.args.widget.now c.args.state.now) c.draw_state_inside.result c.draw_state_inside.ensures.done
