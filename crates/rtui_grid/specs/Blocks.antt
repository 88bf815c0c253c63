-- Blocks of columns and rows.
use Rattle.std.specs.Prelude.{◌≡◌, ℕ, ◌+◌, ◌-◌, ◌<◌, Bool, ◌&&◌, nat_le, nat_lt, if◌then◌else◌, List}
use Rattle.rtui_grid.specs.{declared.block.Block.Block, Items.item_at}

-- column a of row b is one of a block's
abbrev pub is_in_block : Block → ℕ → ℕ → Bool
is_in_block k a b = nat_le k.left a && nat_lt a (k.left + k.columns) && nat_le k.top b && nat_lt b
    (k.top + k.rows)

-- in rows of w elements: a block has those at the start of the rows of another list, and all else is as
-- before
pub record HasBlock {T : Type 0} (blank : T) (w : ℕ) (k : Block) (stride : ℕ)
    (others old new : List T) : Type 0 where
  pub at : (a b : ℕ) → a < w → item_at blank w new a b
      ≡ (if is_in_block k a b then item_at blank stride others (a - k.left)
      (b - k.top) else item_at blank w old a b)
