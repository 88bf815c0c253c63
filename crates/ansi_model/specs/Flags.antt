-- Which columns of a screen are continuation columns, kept as one flag a column.
use Rattle.std.specs.Prelude.{◌≡◌, ℕ, ◌+◌, ◌*◌, ◌<◌, ◌&&◌, nat_lt, Bool, false, List, length, slice_index_or}
use Rattle.ratatui_core.specs.Backend.{ClearType, AfterCursor, BeforeCursor, UntilNewLine}
use Rattle.ansi_model.specs.Columns.{Columns, is_continuation}

-- the flag at a place of a list, false past its end
abbrev pub flag : List Bool → ℕ → Bool
flag flags k = slice_index_or flags k false

-- one flag for each column of the screen, row by row: whether it is a continuation column
pub record AreContinuations (w h : ℕ) (flags : List Bool) (columns : Columns) : Type 0 where
  pub count : length flags ≡ w * h
  pub each : (a b : ℕ) → a < w → b < h → flag flags (b * w + a) ≡ is_continuation (columns a b)

-- whether erasing a part, for a cursor in column x of row y, would leave a piece of a symbol, by the flags of
-- rows of w columns
abbrev pub is_cut : ClearType → ℕ → ℕ → ℕ → List Bool → Bool
is_cut AfterCursor w x y flags = flag flags (y * w + x)
is_cut BeforeCursor w x y flags = nat_lt (x + 1) w && flag flags (y * w + (x + 1))
is_cut UntilNewLine w x y flags = flag flags (y * w + x)
is_cut _ w x y flags = false

-- whether a clear would leave a piece of a symbol that has to stay
abbrev pub is_clear_cut : ClearType → ℕ → ℕ → ℕ → List Bool → Bool
is_clear_cut AfterCursor w x y flags = is_cut AfterCursor w x y flags
is_clear_cut UntilNewLine w x y flags = is_cut UntilNewLine w x y flags
is_clear_cut _ w x y flags = false
