use Rattle.std.proofs.Common.{◌≡◌, ◌<◌, ℕ}
use Rattle.ratatui_test.specs.Apart.{symbol_seen}
use Rattle.ratatui_test.proofs.lines.first_column.Given as goal

abbrev pub invariant-loop-x : goal.invariant-loop-x
invariant-loop-x l = (a : ℕ) → a < l.x → symbol_seen l.shown a ≡ symbol_seen l.wanted a
