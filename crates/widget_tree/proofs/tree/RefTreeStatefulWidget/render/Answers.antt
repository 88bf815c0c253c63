use Rattle.ratatui_core.proofs.WidgetLemmas.{holds_anyway}
use Rattle.widget_boxes.proofs.FrameLemmas.{frame-alone, frame-filled, frame-within, frame-own, frame-inner}
use Rattle.widget_tree.specs.Trees.{ShowsTree}
use Rattle.widget_tree.proofs.DrawLemmas.{tree-left}
use Rattle.widget_tree.proofs.tree.RefTreeStatefulWidget.render.Goals as goal

pub returns-in_default-clause-ok : goal.returns-in_default-clause-ok
returns-in_default-clause-ok c =
    frame-alone c.args.self.now.style c.args.self.now.block (ShowsTree c.args.self.now) c.args.state.now c.args.area
    c.args.buf.now c.render_frame.new.buf c.render_frame.ensures.within (rw c.in_default.is at c.in_ok-inner.ensures.inner)

pub draw_tree-requires-clause-inside : goal.draw_tree-requires-clause-inside
draw_tree-requires-clause-inside c =
    frame-own c.args.self.now.style c.args.self.now.block c.args.area c.in-Some.inner c.args.buf.now c.render_frame.new.buf
    c.render_frame.new.buf (rw c.in-Some.is at c.in_ok-inner.ensures.inner)

pub returns-clause-ok : goal.returns-clause-ok
returns-clause-ok c =
    frame-filled c.args.self.now.style c.args.self.now.block c.args.area c.in-Some.inner c.args.buf.now c.render_frame.new.buf
    c.draw_tree.new.buf (rw c.in-Some.is at c.in_ok-inner.ensures.inner) (ShowsTree c.args.self.now) c.args.state.now
    c.draw_tree.new.state c.draw_tree.result c.draw_tree.ensures.within c.draw_tree.ensures.ok

pub returns-clause-err : goal.returns-clause-err
returns-clause-err c =
    holds_anyway c.draw_tree.result
    (frame-within c.args.self.now.style c.args.self.now.block c.args.area c.in-Some.inner c.args.buf.now c.render_frame.new.buf
    c.draw_tree.new.buf (rw c.in-Some.is at c.in_ok-inner.ensures.inner) c.draw_tree.ensures.within)

pub returns-clause-left : goal.returns-clause-left
returns-clause-left c =
    tree-left c.args.self.now c.args.state.now c.draw_tree.new.state c.args.area c.in-Some.inner c.args.buf.now
    c.render_frame.new.buf c.draw_tree.new.buf (rw c.in-Some.is at c.in_ok-inner.ensures.inner) c.draw_tree.result
    c.draw_tree.ensures.left c.draw_tree.ensures.stopped

pub returns-clause-short : goal.returns-clause-short
returns-clause-short c = λ short.
    let frame = rw c.in-Some.is at c.in_ok-inner.ensures.inner in
    let at = frame-inner c.args.self.now.style c.args.self.now.block c.args.area c.in-Some.inner c.args.buf.now
    c.render_frame.new.buf c.render_frame.new.buf frame in
    c.draw_tree.ensures.short (rw (at, frame.within.same_area) short.inside)
