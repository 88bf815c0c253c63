use Rattle.std.proofs.Common.{◌++◌, string_bytes, sym, ap, ◌∙◌, arith}
use Rattle.std.proofs.lemmas.{Bool.Decides.nat_tests}
use Rattle.follow.proofs.GraphemeLemmas.{none-shown, printed-shown, replaced-shown}
use Rattle.follow.proofs.shown.push_grapheme.Goals as goal
use Rattle.follow.proofs.shown.push_grapheme.Goals.{then-columns-eq0-via-then-columns-eq0}
use Rattle.follow.proofs.shown.push_grapheme.Goals.{then-columns-eq0-via-else-columns-eq0+then-is_printed}

pub returns-then-columns-eq0-clause-shown : goal.returns-then-columns-eq0-clause-shown
returns-then-columns-eq0-clause-shown c =
    let g = c.args.grapheme.now in
    let n = c.painted_width-columns.result in
    c.in_ok-push_str.ensures.bytes
    ∙ ap (λ text. string_bytes c.args.out.now ++ text) (sym (elim c.then-columns-eq0.branch [
      | then-columns-eq0-via-then-columns-eq0 w ↦
          none-shown g n c.painted_width-columns.ensures (grind (arith, nat_tests, w.if-columns-eq0.true))
      | then-columns-eq0-via-else-columns-eq0+then-is_printed w ↦
          printed-shown g (sym w.is_printed.ensures ∙ w.if-is_printed.true)
    ]))

pub returns-clause-shown : goal.returns-clause-shown
returns-clause-shown c =
    let g = c.args.grapheme.now in
    let n = c.painted_width-columns.result in
    c.in_ok-push_replacement.ensures
    ∙ ap (λ text. string_bytes c.args.out.now ++ text)
    (sym (replaced-shown g n c.painted_width-columns.ensures (grind (arith, nat_tests, c.if-columns-eq0.false))
    (sym c.is_printed.ensures ∙ c.if-is_printed.false)))
