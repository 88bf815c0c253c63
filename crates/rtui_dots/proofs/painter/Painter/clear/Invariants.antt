use Rattle.std.proofs.Common.{◌≡◌, ℕ, ◌<◌, get_or}
use Rattle.rtui_dots.specs.Grids.{no_dots}
use Rattle.rtui_dots.proofs.painter.Painter.clear.Given as goal

abbrev pub invariant-loop-cell : goal.invariant-loop-cell
invariant-loop-cell l = (k : ℕ) → k < l.cell-index → get_or l.cell-items k no_dots ≡ no_dots
