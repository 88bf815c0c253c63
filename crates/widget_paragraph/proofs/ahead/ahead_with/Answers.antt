use Rattle.std.proofs.Common.{◌≡◌, ◌<◌, ◌⊎◌, ◌∙◌, true, false, inl, inr, sym, arith}
use Rattle.std.proofs.lemmas.Bool.{false≢true}
use Rattle.widget_paragraph.specs.{Inner.columns_ahead, Reflow.is_break}
use Rattle.widget_paragraph.proofs.AheadLemmas.{ahead-grown}
use Rattle.widget_paragraph.proofs.ahead.ahead_with.Goals as goal
use Rattle.widget_paragraph.proofs.ahead.ahead_with.Goals.{else-trim-via-then-trim+then-ahead-eq0+else-is_blank}
use Rattle.widget_paragraph.proofs.ahead.ahead_with.Goals.{else-trim-via-then-trim+else-ahead-eq0, else-trim-via-else-trim}

pub returns : goal.returns
returns c = λ gs le.
    let g = c.args.grapheme.now in
    let counts : c.args.trim ≡ true → (0 < columns_ahead c.args.trim gs) ⊎ (is_break g ≡ false) = elim c.else-trim.branch [
      | else-trim-via-then-trim+then-ahead-eq0+else-is_blank w ↦ λ trim. inr (sym w.is_blank.ensures
          ∙ w.if-is_blank.false)
      | else-trim-via-then-trim+else-ahead-eq0 w ↦ λ trim. inl (let some = w.if-ahead-eq0.false in omega arith)
      | else-trim-via-else-trim w ↦ λ trim. absurd (false≢true (sym w.if-trim.false ∙ trim))
    ] in
    omega (arith, ahead-grown c.args.trim gs g counts, c.from.ensures, c.columns.ensures)
