use Rattle.std.proofs.Common.{◌≡◌, false, true}
use Rattle.ratatui_core.specs.{Layout.Rect, Buffer.BufferData}
use Rattle.ratatui_core.proofs.BufferLemmas.{within-same, within-wider}
use Rattle.ratatui_core.proofs.WidgetLemmas.{within-then, within-styled, OnPart-none, OnPart-clipped}
use Rattle.widget_boxes.specs.Framed.{inner_if, IsFramed, IsBare}
use Rattle.widget_boxes.proofs.{BoxLemmas.box-area, FrameLemmas.short-laid, FrameLemmas.inner-test}
use Rattle.widget_boxes.proofs.frame.render_frame.Goals as goal

pub returns-in_default-clause-within : goal.returns-in_default-clause-within
returns-in_default-clause-within c = within-same c.args.area c.args.buf.now

pub returns-in_default-clause-inner : goal.returns-in_default-clause-inner
returns-in_default-clause-inner c = OnPart-none _ c.args.area c.args.buf.now c.in_default.ensures

pub returns-in_err-render_if-clause-within : goal.returns-in_err-render_if-clause-within
returns-in_err-render_if-clause-within c =
    within-wider c.in-Some.part c.args.area c.args.buf.now c.render_if.new.buf c.in-Some.ensures.of_area
    (within-then c.in-Some.part c.args.buf.now c.set_style.new.self c.render_if.new.buf
    (within-styled c.in-Some.part c.in-Some.part c.args.style c.args.buf.now c.set_style.new.self (λ p in_own h. h)
    c.set_style.ensures) c.render_if.ensures.within)

pub returns-in_err-render_if-clause-short : goal.returns-in_err-render_if-clause-short
returns-in_err-render_if-clause-short c = λ short.
    let no : false ≡ true = c.in_err-render_if.ensures.short
    (short-laid c.args.block.now c.in-Some.part c.args.style c.args.buf.now c.set_style.new.self c.set_style.ensures short) in
    absurd (cc)

pub returns-then-is_empty-clause-within : goal.returns-then-is_empty-clause-within
returns-then-is_empty-clause-within c =
    within-wider c.in-Some.part c.args.area c.args.buf.now c.render_if.new.buf c.in-Some.ensures.of_area
    (within-then c.in-Some.part c.args.buf.now c.set_style.new.self c.render_if.new.buf
    (within-styled c.in-Some.part c.in-Some.part c.args.style c.args.buf.now c.set_style.new.self (λ p in_own h. h)
    c.set_style.ensures) c.render_if.ensures.within)

pub returns-then-is_empty-clause-inner : goal.returns-then-is_empty-clause-inner
returns-then-is_empty-clause-inner c =
    let F : Rect → BufferData → BufferData → Type 0 = λ part old new.
    IsFramed c.args.style c.args.block.now part old new × IsBare (inner_if c.args.block.now part) in
    OnPart-clipped F c.args.area c.in-Some.part c.args.buf.now c.render_if.new.buf c.in-Some.ensures (
      record { laid = c.set_style.new.self; styled = c.set_style.ensures; boxed = c.in_ok-render_if.ensures.boxed },
      rw (← c.inner_if-inner.ensures) (c.is_empty.ensures.0 c.if-is_empty.true),
    )

pub returns-clause-within : goal.returns-clause-within
returns-clause-within c =
    within-wider c.in-Some.part c.args.area c.args.buf.now c.render_if.new.buf c.in-Some.ensures.of_area
    (within-then c.in-Some.part c.args.buf.now c.set_style.new.self c.render_if.new.buf
    (within-styled c.in-Some.part c.in-Some.part c.args.style c.args.buf.now c.set_style.new.self (λ p in_own h. h)
    c.set_style.ensures) c.render_if.ensures.within)

pub returns-clause-inner : goal.returns-clause-inner
returns-clause-inner c = record {
  part = c.in-Some.part;
  clip = c.in-Some.ensures;
  framed = record { laid = c.set_style.new.self; styled = c.set_style.ensures; boxed = c.in_ok-render_if.ensures.boxed };
  within = within-then c.in-Some.part c.args.buf.now c.set_style.new.self c.render_if.new.buf
      (within-styled c.in-Some.part c.in-Some.part c.args.style c.args.buf.now c.set_style.new.self (λ p in_own h. h)
      c.set_style.ensures) c.render_if.ensures.within;
  inside = inner-test c.args.block.now c.in-Some.part c.inner_if-inner.result c.is_empty.result
      c.inner_if-inner.ensures (box-area c.args.area c.args.buf.now.area c.in-Some.part c.in-Some.ensures) c.is_empty.ensures
      c.if-is_empty.false;
}
