use Rattle.std.proofs.Common.{◌≡◌, ℕ, ◌&&◌, if◌then◌else◌, nat_lt, nat_le}
use Rattle.rtui_grid.specs.Items.{item}
use Rattle.rtui_grid.proofs.blank.fill.Given as goal

abbrev pub invariant-loop-k : goal.invariant-loop-k
invariant-loop-k g l = (j : ℕ)
    → item g.T.Blank.blank l.items j ≡ (if nat_le l.from j && nat_lt j l.k then g.T.Blank.blank else item g.T.Blank.blank
    l.fn.items j)
