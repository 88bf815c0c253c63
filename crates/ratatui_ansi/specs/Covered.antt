-- Columns that are covered by a symbol which begins left of them.
use Rattle.std.specs.Prelude.{◌≡◌, ℕ, ◌+◌, ◌<◌, false}
use Rattle.ratatui_core.specs.Buffer.{is_skipped, Grid, Cell, is_forced}
use Rattle.ansi_model.specs.Symbols.{printed_columns}

-- a symbol that begins left of column a, in row b, reaches over that column
pub record IsCovered (g : Grid) (a b : ℕ) : Type 0 where
  pub start : ℕ
  pub left : start < a
  pub reaches : a < start + printed_columns (g start b).symbol

-- no symbol reaches from the left into column x of the h rows from y on
abbrev pub IsOpen : Grid → ℕ → ℕ → ℕ → Type 0
IsOpen g x y h = (b : ℕ) → b < h → IsCovered g x (y + b) → ⊥

-- a cell that is drawn, in as many columns as its text takes
pub record IsOrdinary (c : Cell) : Type 0 where
  pub unskipped : is_skipped c ≡ false
  pub unforced : is_forced c ≡ false
