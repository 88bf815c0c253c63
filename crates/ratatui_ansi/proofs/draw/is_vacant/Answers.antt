use Rattle.std.proofs.Common.{◌≡◌, ℕ, IsTrue, nat_eq, sym, ◌∙◌, arith}
use Rattle.std.proofs.lemmas.Bool.Decides.{nat_tests}
use Rattle.ratatui_core.specs.Buffer.{width_of}
use Rattle.ratatui_ansi.proofs.FrameLemmas.{vacant-is, vacant-text, vacant-sgr}
use Rattle.ratatui_ansi.proofs.draw.is_vacant.Goals.{then-is_blank, else-is_blank}
use Rattle.ratatui_ansi.proofs.draw.is_vacant.Goals as goal

one-column : (n m : ℕ) → n ≡ m → IsTrue (nat_eq n 1) → m ≡ 1
one-column n m e is = grind (arith, nat_tests)

is-one : (n m : ℕ) → n ≡ m → m ≡ 1 → IsTrue (nat_eq n 1)
is-one n m e is = grind (arith, nat_tests)

pub returns-then-is_of : goal.returns-then-is_of
returns-then-is_of c =
    let cell = c.args.cell.now in
    elim c.if-is_blank.branch [
      | then-is_blank w ↦ (
        λ one.
            vacant-is cell (sym c.symbol.ensures ∙ c.is_blank.ensures.0 w.if-is_blank.true)
            (sym (w.is_of.ensures.0 (sym w.value-is ∙ c.if-is_of.true)))
            (one-column c.cell_width.result (width_of cell) c.cell_width.ensures one),
        λ is. is-one c.cell_width.result (width_of cell) c.cell_width.ensures is.width,
      )
      | else-is_blank w ↦ let not = w.value-is in let was = c.if-is_of.true in let h : ⊥ = cc in absurd h
    ]

pub returns-else-is_of : goal.returns-else-is_of
returns-else-is_of c =
    let cell = c.args.cell.now in (
      λ yes. let not = c.if-is_of.false in let h : ⊥ = cc in absurd h,
      λ is. elim c.if-is_blank.branch [
        | then-is_blank w ↦ w.value-is ∙ w.is_of.ensures.1 (sym (vacant-sgr cell is))
        | else-is_blank w ↦
            let other = w.if-is_blank.false in
            let blank_one = c.is_blank.ensures.1 (c.symbol.ensures ∙ vacant-text cell is) in
            let h : ⊥ = cc in
            absurd h
      ],
    )
