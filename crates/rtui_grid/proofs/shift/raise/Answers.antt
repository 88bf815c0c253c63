use Rattle.std.proofs.Common.{◌≡◌, ◌+◌, ◌≤◌, length, ap, sym, ◌∙◌, inl, inr, arith}
use Rattle.std.proofs.lemmas.{Bool.cases_lt, Bool.Decides.nat_tests, Grind.common_steps}
use Rattle.rtui_grid.specs.Items.{item}
use Rattle.rtui_grid.proofs.ItemLemmas.{rotated, past_end}
use Rattle.rtui_grid.proofs.shift.raise.Goals as goal

pub returns : goal.returns
returns g c = λ k.
    let d = g.T.Blank.blank in
    let old = c.args.items.now in
    let count = c.min-count.result in
    let fits : count ≤ length c.fill.new.items = grind (arith, common_steps) in
    let turned : item d c.rotate_left.new.self k ≡ item d c.fill.new.items (k + count) =
    rw c.rotate_left.ensures.after (rotated d c.fill.new.items count fits (λ j low. c.fill.ensures j
    ∙ grind (arith, nat_tests)) k) in
    let kept : item d c.fill.new.items (k + count) ≡ item d old (k + count) = c.fill.ensures (k + count)
    ∙ grind (arith, nat_tests) in
    turned ∙ kept ∙ elim (cases_lt (length old) c.args.by) [
      | inl more ↦ let all : count ≡ length old = grind (arith, common_steps) in
          past_end d old (k + count) (omega arith) ∙ sym (past_end d old (k + c.args.by) (omega arith))
      | inr other ↦ let all : count ≡ c.args.by = grind (arith, common_steps) in ap (λ i. item d old (k + i)) all
    ]
