use Rattle.std.proofs.Common.{sym, ◌∙◌}
use Rattle.std.proofs.lemmas.Bool.{false≢true}
use Rattle.rtui_diff.proofs.SameLemmas.{same_symbols, other_style, other_symbol}
use Rattle.rtui_diff.proofs.cells.is_same.Goals as goal
use Rattle.rtui_diff.proofs.cells.is_same.Goals.{then-has_same_symbol, else-has_same_symbol}

pub returns-then-has_same_style : goal.returns-then-has_same_style
returns-then-has_same_style c = elim c.if-has_same_symbol.branch [
  | then-has_same_symbol w ↦ same_symbols c.args.a.now c.args.b.now _ _ c.eq.result c.has_same_symbol.ensures
      w.if-has_same_symbol.true w.has_same_style.ensures (sym w.value-is ∙ c.if-has_same_style.true) c.eq.ensures
  | else-has_same_symbol w ↦ absurd (false≢true
      (sym w.if-has_same_symbol.false ∙ sym w.value-is ∙ c.if-has_same_style.true))
]

pub returns-else-has_same_style : goal.returns-else-has_same_style
returns-else-has_same_style c = c.if-has_same_style.false ∙ (elim c.if-has_same_symbol.branch [
  | then-has_same_symbol w ↦ other_style c.args.a.now c.args.b.now _ w.has_same_style.ensures
      (sym w.value-is ∙ c.if-has_same_style.false)
  | else-has_same_symbol w ↦ other_symbol c.args.a.now c.args.b.now _ c.has_same_symbol.ensures w.if-has_same_symbol.false
])
