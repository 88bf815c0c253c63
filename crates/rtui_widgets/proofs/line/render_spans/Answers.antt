use Rattle.std.proofs.lemmas.Bool.{false≢true}
use Rattle.std.proofs.Common.{ℕ, List, ◌≡◌, ◌+◌, ◌-◌, length, min, take, drop, arith, sym, ap, ◌∙◌, rules}
use Rattle.rtui_cell.specs.declared.cell.Cell.{Cell}
use Rattle.rtui_widgets.specs.Span.{span_rendered}
use Rattle.rtui_widgets.proofs.SpanLemmas.{length-span_rendered, unmarked-written}
use Rattle.rtui_widgets.specs.{Line.Part, Line.part_of, Line.parts, Refused.HasFrontOfParts}
use Rattle.rtui_widgets.proofs.LineLemmas.{parts-nil, part-style, lent_from, length-rest, length-lent, done-all, done-skip}
use Rattle.rtui_widgets.proofs.LineLemmas.{done-next, done-past, done-turn, done-short, done-refused}
use Rattle.rtui_buffer.proofs.PaintLemmas.{unmarked-then}
use Rattle.rtui_widgets.proofs.line.render_spans.Goals as goal

pub loop-span-preserved-then-width-skip : goal.loop-span-preserved-then-width-skip
loop-span-preserved-then-width-skip c = record {
  within = c.loop-span.invariant.within;
  marks = c.loop-span.invariant.marks;
  done = done-skip _ _ _ _ _ _ _ _ _ c.loop-span-test.true c.span-item.is c.width-width.ensures c.loop-span.invariant.done
      c.if-width-skip.true;
}

pub returns-then-start-row-clause-ok : goal.returns-then-start-row-clause-ok
returns-then-start-row-clause-ok c =
    let indent : c.min-start.result ≡ min (part_of c.loop-span.skip c.span-item.result).indent
    (length c.loop-span.row - c.loop-span.start) = rw (← c.part_of-part.ensures.indent) c.min-start.ensures in
    let next = done-next _ _ _ _ _ _ _ _ _ c.loop-span-test.true c.span-item.is c.width-width.ensures c.loop-span.invariant.done
    c.if-width-skip.false in
    done-past _ _ _ _ _ _ _ c.loop-span.invariant.within indent next c.if-start-row.true

pub loop-span-preserved : goal.loop-span-preserved
loop-span-preserved c =
    let p : Part = part_of c.loop-span.skip c.span-item.result in
    let row : List Cell = c.loop-span.row in
    let at : ℕ = c.loop-span.start + c.min-start.result in
    let within = c.loop-span.invariant.within in
    let indent : c.min-start.result ≡ min p.indent (length row - c.loop-span.start) =
    rw (← c.part_of-part.ensures.indent) c.min-start.ensures in
    let next = done-next _ _ _ _ _ _ _ _ _ c.loop-span-test.true c.span-item.is c.width-width.ensures c.loop-span.invariant.done
    c.if-width-skip.false in
    let style : c.span.inside.style ≡ p.style = ap (λ s. s.style) c.span.view_is
    ∙ sym (part-style c.loop-span.skip c.span-item.result) in
    let shown : c.render_span.new.row ≡ span_rendered p.style p.content (take (length row - at) (drop at row)) =
    rw (← style, ← c.part_of-part.ensures.content) c.in_ok-render_span.ensures.ok in
    let count : length (lent_from at row c.render_span.new.row) ≡ length row =
    length-lent at row c.render_span.new.row (omega arith) (ap length shown ∙ length-span_rendered _ _ _ ∙ length-rest at row) in
    let width : c.min-start-in-loop-span.result ≡ min p.width (length row - at) =
    rw (← c.part_of-part.ensures.width, ← count) c.min-start-in-loop-span.ensures in
    record {
      within = omega arith;
      marks = unmarked-then _ _ _ c.loop-span.invariant.marks
          (unmarked-written at (length row - at) row c.render_span.new.row c.in_ok-render_span.ensures.marks
          c.render_span.auto.row);
      done = done-turn _ _ _ _ _ _ _ within indent next _ _ shown width count;
    }

pub returns-in_err-render_span : goal.returns-in_err-render_span
returns-in_err-render_span c =
    let p : Part = part_of c.loop-span.skip c.span-item.result in
    let row : List Cell = c.loop-span.row in
    let at : ℕ = c.loop-span.start + c.min-start.result in
    let within = c.loop-span.invariant.within in
    let indent : c.min-start.result ≡ min p.indent (length row - c.loop-span.start) =
    rw (← c.part_of-part.ensures.indent) c.min-start.ensures in
    let next = done-next _ _ _ _ _ _ _ _ _ c.loop-span-test.true c.span-item.is c.width-width.ensures c.loop-span.invariant.done
    c.if-width-skip.false in
    let style : c.span.inside.style ≡ p.style = ap (λ s. s.style) c.span.view_is
    ∙ sym (part-style c.loop-span.skip c.span-item.result) in
    let marks = unmarked-then _ _ _ c.loop-span.invariant.marks
    (unmarked-written at (length row - at) row c.render_span.new.row c.in_err-render_span.ensures.marks
    c.render_span.auto.row) in
    let left : HasFrontOfParts (parts c.args.skip c.args.spans.now) c.args.row.now (lent_from at row c.render_span.new.row) =
    done-refused _ _ _ _ _ _ _ within indent next _
    (rw (← style, ← c.part_of-part.ensures.content) c.in_err-render_span.ensures.err) in
    record {
      ok = search rules;
      short = λ short. absurd (false≢true
          (c.in_err-render_span.ensures.short
          (rw c.part_of-part.ensures.content (done-short _ _ _ _ _ _ _ within indent next short))));
      marks = search (rules, marks);
      err = search (rules, left);
    }

pub returns-clause-ok : goal.returns-clause-ok
returns-clause-ok c = done-all _ _ _ _ _ (parts-nil _ _ _ c.loop-span-test.false) c.loop-span.invariant.done
