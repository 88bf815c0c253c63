-- How cells are emptied.
use Rattle.std.proofs.Common.{◌≡◌, ℕ, ◌+◌, ◌-◌, ◌<◌, List, arith}
use Rattle.rtui_cell.specs.declared.cell.Cell.{Cell}
use Rattle.rtui_buffer.specs.Painted.{emptied}

pub emptied-none : (at n : ℕ) (cells : List Cell) → n ≡ 0 → emptied at n cells ≡ cells
unfolding emptied
emptied-none at n cells e = rw e

pub emptied-behind : (x width : ℕ) (cells : List Cell) → 1 < width → emptied (x + 1) (x + width - (x + 1)) cells ≡ emptied (x + 1)
    (width - 1) cells
emptied-behind x width cells lt = let e : x + width - (x + 1) ≡ width - 1 = omega arith in rw e

pub ruleset empty_steps = (emptied-none, emptied-behind)
