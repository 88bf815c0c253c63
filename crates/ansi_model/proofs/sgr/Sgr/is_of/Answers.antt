use Rattle.std.proofs.Common.{◌≡◌, IsTrue, Bool, true, sym, ◌∙◌, arith}
use Rattle.std.proofs.lemmas.Bool.Decides.{nat_tests}
use Rattle.ratatui_core.proofs.StyleLemmas.{same_color, same_modifier}
use Rattle.ansi_model.proofs.SgrLemmas.{sgr-of-cell, same-bits}
use Rattle.ansi_model.proofs.sgr.Sgr.is_of.Goals.{then-eq, else-eq, then-eq-2, else-eq-2}
use Rattle.ansi_model.proofs.sgr.Sgr.is_of.Goals as goal

holds : (b : Bool) → IsTrue b → b ≡ true
holds b is = grind (arith, nat_tests)

sent : (b : Bool) → b ≡ true → IsTrue b
sent b is = grind (arith, nat_tests)

pub returns-then-eq-3 : goal.returns-then-eq-3
returns-then-eq-3 c =
    elim c.if-eq-2.branch [
      | then-eq-2 v ↦ elim c.if-eq.branch [
        | then-eq w ↦
            let sgr = c.args.self.now in
            let cell = c.args.cell.now in
            let fg = same_color sgr.fg cell.fg (sym c.eq.ensures ∙ w.if-eq.true) in
            let bg = same_color sgr.bg cell.bg (sym w.eq-then-eq.ensures ∙ sym w.value-is ∙ v.if-eq-2.true) in
            let underline = same_color sgr.underline_color cell.underline_color (sym v.eq-then-eq-2.ensures ∙ sym v.value-is
            ∙ c.if-eq-3.true) in (
              λ is. sgr-of-cell sgr cell fg bg underline (same_modifier sgr.modifier cell.modifier (sym c.eq-then-eq-3.ensures
                  ∙ holds c.eq-then-eq-3.result is)),
              λ e. sent c.eq-then-eq-3.result (c.eq-then-eq-3.ensures ∙ same-bits sgr cell e),
            )
        | else-eq w ↦ let not = w.value-is in let was = v.if-eq-2.true in let h : ⊥ = cc in absurd h
      ]
      | else-eq-2 v ↦ let not = v.value-is in let was = c.if-eq-3.true in let h : ⊥ = cc in absurd h
    ]
