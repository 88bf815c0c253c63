use Rattle.std.proofs.Common.{◌≡◌, ◌∙◌, ◌==◌, false, [], ◌∷◌, ◌<◌, ap, ap₂, sym, subst, length, arith}
use Rattle.std.proofs.lemmas.Bool.Decides.{nat_tests}
use Rattle.ratatui_core.specs.Layout.{IsInside}
use Rattle.ratatui_core.proofs.WidgetLemmas.{within-then}
use Rattle.widget_paragraph.specs.{Inner.left_of, Reflow.AllFit, Reflow.split_row, Paragraphs.aligned_row}
use Rattle.widget_paragraph.specs.{Paragraphs.aligned_rows}
use Rattle.widget_paragraph.proofs.ReflowLemmas.{fit-past}
use Rattle.widget_paragraph.proofs.RowsLemmas.{rows_left, left-next, rows-line}
use Rattle.widget_paragraph.proofs.AheadLemmas.{line-step}
use Rattle.widget_paragraph.proofs.paragraph.render_line.Goals as goal

pub render_next-requires-in-loop-alignment-clause-inside : goal.render_next-requires-in-loop-alignment-clause-inside
render_next-requires-in-loop-alignment-clause-inside c = subst (IsInside c.args.part)
    (sym c.loop-alignment.invariant.within.same_area) c.requires.inside

pub returns-in_err-next-clause-within : goal.returns-in_err-next-clause-within
returns-in_err-next-clause-within c =
    within-then c.args.part c.args.buf.now c.loop-alignment.buf c.render_next-in-loop-alignment.new.buf
    c.loop-alignment.invariant.within c.render_next-in-loop-alignment.ensures.within

pub returns-in_err-fill-2-clause-within : goal.returns-in_err-fill-2-clause-within
returns-in_err-fill-2-clause-within c =
    within-then c.args.part c.args.buf.now c.loop-alignment.buf c.render_next-in-loop-alignment.new.buf
    c.loop-alignment.invariant.within c.render_next-in-loop-alignment.ensures.within

pub loop-alignment-preserved : goal.loop-alignment-preserved
loop-alignment-preserved c =
    let i = c.loop-alignment.invariant in
    let gs = left_of c.loop-alignment.line in
    let row = c.row-count.result.0.now in
    let count = c.row-count.result.1 in
    let empty : (length gs == 0) ≡ false = sym c.is_empty-in-loop-alignment.ensures ∙ c.loop-alignment-test.true in
    let some : 0 < length gs = grind (arith, nat_tests, empty) in
    let step = line-step count c.loop-alignment.line c.pass.new.self c.fill-in-loop-alignment.new.self c.pass.ensures.left
    c.in_ok-fill-2.ensures.left in
    let next = left-next c.args.part.width c.args.line.trim gs row count i.fit some (c.row-count.ensures.value
    ∙ ap₂ (λ w t. split_row w t gs) i.width i.trim) in
    let rows = ap (aligned_rows c.args.alignment) (next ∙ ap (λ xs. row ∷ rows_left c.args.part.width c.args.line.trim xs)
    (sym step.left)) in
    record {
      line = c.in_ok-fill-2.ensures.ready;
      width = step.width ∙ i.width;
      trim = step.trim ∙ i.trim;
      fit = subst (AllFit c.args.part.width) (sym step.left) (fit-past c.args.part.width count gs i.fit);
      row = c.in_ok-next.ensures.row;
      within = within-then c.args.part c.args.buf.now c.loop-alignment.buf c.render_next-in-loop-alignment.new.buf i.within
          c.render_next-in-loop-alignment.ensures.within;
      paints = rows-line c.args.part c.loop-alignment.next c.in_ok-next.next c.args.filling (aligned_row c.args.alignment row ∷ []) _ _ _
          c.args.buf.now c.loop-alignment.buf c.render_next-in-loop-alignment.new.buf rows i.paints c.in_ok-next.ensures.ok;
      ready = λ from. c.in_ok-next.ensures.ready (i.ready from);
    }
