use Rattle.std.proofs.Common.{◌≡◌, ℕ, ◌*◌, ◌≤◌}
use Rattle.rtui_grid.specs.{Items.item, Blocks.HasBlock}
use Rattle.rtui_grid.proofs.BlockLemmas.{front}
use Rattle.rtui_grid.proofs.block.move_block.Given as goal

abbrev pub invariant-loop-row : goal.invariant-loop-row
invariant-loop-row g l = record {
  moved : HasBlock g.T.Blank.blank l.fn.width (front l.fn.block l.row) l.fn.stride l.fn.others l.fn.items l.items;
  rest : (k : ℕ) → l.row * l.fn.stride ≤ k → item g.T.Blank.blank l.others k ≡ item g.T.Blank.blank l.fn.others k;
}
