use Rattle.std.proofs.Common.{◌≡◌, ℕ, ◌+◌, ◌<◌, ◌≤◌}
use Rattle.rtui_grid.specs.Items.{item}
use Rattle.rtui_grid.proofs.block.swap_parts.Given as goal

abbrev pub invariant-loop-k : goal.invariant-loop-k
invariant-loop-k g l = record {
  moved : (j : ℕ) → j < l.k → item g.T.Blank.blank l.items (l.at + j) ≡ item g.T.Blank.blank l.fn.others (l.start + j);
  before : (j : ℕ) → j < l.at → item g.T.Blank.blank l.items j ≡ item g.T.Blank.blank l.fn.items j;
  after : (j : ℕ) → l.at + l.k ≤ j → item g.T.Blank.blank l.items j ≡ item g.T.Blank.blank l.fn.items j;
  others_after : (j : ℕ) → l.start + l.k ≤ j → item g.T.Blank.blank l.others j ≡ item g.T.Blank.blank l.fn.others j;
}
