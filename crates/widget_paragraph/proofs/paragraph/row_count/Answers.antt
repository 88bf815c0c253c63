use Rattle.std.proofs.Common.{◌≡◌, ◌<◌, ◌==◌, ◌∷◌, ◌∙◌, false, ap, ap₂, sym, subst, length, arith}
use Rattle.std.proofs.lemmas.Bool.Decides.{nat_tests}
use Rattle.widget_paragraph.specs.{Inner.left_of, Reflow.AllFit, Reflow.split_row}
use Rattle.widget_paragraph.proofs.ReflowLemmas.{fit-past}
use Rattle.widget_paragraph.proofs.RowsLemmas.{rows_left, left-next}
use Rattle.widget_paragraph.proofs.AheadLemmas.{line-step}
use Rattle.widget_paragraph.proofs.paragraph.row_count.Goals as goal

pub loop-line-preserved : goal.loop-line-preserved
loop-line-preserved c =
    let i = c.loop-line.invariant in
    let gs = left_of c.loop-line.line in
    let row = c.row-taken.result.0.now in
    let count = c.row-taken.result.1 in
    let empty : (length gs == 0) ≡ false = sym c.is_empty.ensures ∙ c.loop-line-test.true in
    let some : 0 < length gs = grind (arith, nat_tests, empty) in
    let step = line-step count c.loop-line.line c.pass.new.self c.fill-in-loop-line.new.self c.pass.ensures.left
    c.in_ok-fill-2.ensures.left in
    let next = left-next c.args.line.width c.args.line.trim gs row count i.fit some (c.row-taken.ensures.value
    ∙ ap₂ (λ w t. split_row w t gs) i.width i.trim) in
    let rows = ap length (next ∙ ap (λ xs. row ∷ rows_left c.args.line.width c.args.line.trim xs) (sym step.left)) in
    let so_far = i.rows in
    record {
      line = c.in_ok-fill-2.ensures.ready;
      width = step.width ∙ i.width;
      trim = step.trim ∙ i.trim;
      fit = subst (AllFit c.args.line.width) (sym step.left) (fit-past c.args.line.width count gs i.fit);
      rows = omega (arith, rows, c.saturating_add-count.ensures);
    }
