use Rattle.std.proofs.Common.{◌≡◌, subst, OnOk}
use Rattle.ratatui_core.proofs.WidgetLemmas.{holds_anyway}
use Rattle.widget_boxes.proofs.FrameLemmas.{frame-alone, frame-filled, frame-within}
use Rattle.widget_boxes.specs.Framed.{RendersStateInFrame}
use Rattle.widget_field.specs.Fields.{ShowsField, hidden}
use Rattle.widget_field.proofs.PaintLemmas.{hidden-by}
use Rattle.widget_field.proofs.input.RefInputStatefulWidget.render.Goals as goal

pub returns-in_default-clause-ok : goal.returns-in_default-clause-ok
returns-in_default-clause-ok c =
    let is : c.set_view.new.self ≡ hidden c.args.state.now = hidden-by c.args.state.now c.set_view.new.self c.view_start-first.result c.view_start-first.ensures c.set_view.ensures in
    subst (λ s. RendersStateInFrame c.args.self.now.style c.args.self.now.block (ShowsField c.args.self.now) s
    c.set_view.new.self c.args.area c.args.buf.now c.render_frame.new.buf) is
    (frame-alone c.args.self.now.style c.args.self.now.block
    (ShowsField c.args.self.now) c.set_view.new.self c.args.area c.args.buf.now
    c.render_frame.new.buf c.render_frame.ensures.within (rw c.in_default.is at c.in_ok-inner.ensures.inner))

pub returns-clause-ok : goal.returns-clause-ok
returns-clause-ok c =
    let is : c.set_view.new.self ≡ hidden c.args.state.now = hidden-by c.args.state.now c.set_view.new.self c.view_start-first.result c.view_start-first.ensures c.set_view.ensures in
    subst (λ s. OnOk c.render_field.result (RendersStateInFrame c.args.self.now.style c.args.self.now.block
    (ShowsField c.args.self.now) s c.render_field.new.field c.args.area c.args.buf.now c.render_field.new.buf)) is
    (frame-filled c.args.self.now.style c.args.self.now.block c.args.area c.in-Some.inner c.args.buf.now c.render_frame.new.buf
    c.render_field.new.buf (rw c.in-Some.is at c.in_ok-inner.ensures.inner) (ShowsField c.args.self.now)
    c.set_view.new.self c.render_field.new.field c.render_field.result c.render_field.ensures.within c.render_field.ensures.ok)

pub returns-clause-err : goal.returns-clause-err
returns-clause-err c =
    holds_anyway c.render_field.result
    (frame-within c.args.self.now.style c.args.self.now.block c.args.area c.in-Some.inner c.args.buf.now c.render_frame.new.buf
    c.render_field.new.buf (rw c.in-Some.is at c.in_ok-inner.ensures.inner) c.render_field.ensures.within)

pub returns-clause-short : goal.returns-clause-short
returns-clause-short c = λ short. c.render_field.ensures.short (rw c.set_view.ensures (record {
  unmasked = short.text.unmasked;
  before = short.text.before;
  behind = short.text.behind;
}))
