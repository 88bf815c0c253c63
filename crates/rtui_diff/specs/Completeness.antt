-- Which places are given, in words of columns.
use Rattle.std.specs.Prelude.{◌≡◌, ℕ, ◌+◌, ◌<◌, ◌≤◌, true, false, ◌&&◌, not, List, filter, Contains}
use Rattle.std.specs.List.{range_with_len}
use Rattle.rtui_cell.specs.{declared.cell.Cell.Cell, Cell.empty_cell, Cell.width_of, Cell.is_skipped}
use Rattle.rtui_cell.specs.{Equality.is_same, Equality.is_same_symbol, Grid.Update}
use Rattle.rtui_diff.specs.Cells.{has_fe0f, is_forced, is_always, shows_on_blank, cell, cell_at}

-- the unskipped places that differ, of len places
abbrev pub differing : List Cell → List Cell → ℕ → List ℕ
differing ps ns len = filter (λ i. not (is_skipped (cell ns i)) && not (is_same (cell ps i) (cell ns i)))
    (range_with_len 0 len)

-- no cell of both is wide, and none of next is always given
pub record AreNarrow (len : ℕ) (ps ns : List Cell) : Type 0 where
  pub former : (i : ℕ) → i < len → width_of (cell ps i) ≤ 1
  pub next : (i : ℕ) → i < len → width_of (cell ns i) ≤ 1
  pub changing : (i : ℕ) → i < len → is_always (cell ns i) ≡ false

-- an update stands at column a and row b of the area at (x0, y0)
pub record IsGiven (x0 y0 : ℕ) (us : List Update) (a b : ℕ) : Type 0 where
  pub update : Update
  pub among : Contains us update
  pub x : update.x ≡ x0 + a
  pub y : update.y ≡ y0 + b

-- what stands in column j, if the column a after it is given all the same
pub record Repeats (x0 y0 w : ℕ) (ps ns : List Cell) (us : List Update) (j a b : ℕ) : Type 0 where
  pub given : IsGiven x0 y0 us j b
  pub unforced : is_forced (cell_at w ns j b) ≡ false
  pub variation : has_fe0f (cell_at w ns j b) ≡ true
  pub filled : is_same_symbol (cell_at w ps a b) empty_cell ≡ false

-- a former wide cell with a visible style that stood before column a, under a given cell that is not wide
pub record Uncovers (x0 y0 w : ℕ) (ps ns : List Cell) (us : List Update) (a b : ℕ) : Type 0 where
  pub j : ℕ
  pub before : j < a
  pub former : is_skipped (cell_at w ps j b) ≡ false
  pub covers : a < j + width_of (cell_at w ps j b)
  pub visible : shows_on_blank (cell_at w ps j b) ≡ true
  pub given : IsGiven x0 y0 us j b
  pub narrow : width_of (cell_at w ns j b) ≤ 1

-- column a of row b lies in a frame
pub record IsInFrame (w h a b : ℕ) : Type 0 where
  pub column : a < w
  pub row : b < h

-- the unskipped cell in column j of row b covers column a after it
pub record CoversColumn (w : ℕ) (cells : List Cell) (j a b : ℕ) : Type 0 where
  pub before : j < a
  pub unskipped : is_skipped (cell_at w cells j b) ≡ false
  pub reaches : a < j + width_of (cell_at w cells j b)

-- the cell in column a of row b is the former one, and isn't always given
pub record IsUnchanged (w : ℕ) (ps ns : List Cell) (a b : ℕ) : Type 0 where
  pub same : is_same (cell_at w ps a b) (cell_at w ns a b) ≡ true
  pub changing : is_always (cell_at w ns a b) ≡ false

-- nothing is given that a screen has no need of
pub record IsMinimal (x0 y0 w h : ℕ) (ps ns : List Cell) (us : List Update) : Type 0 where
  pub behind : (a b j : ℕ) → IsInFrame w h a b → IsGiven x0 y0 us a b → CoversColumn w ns j a b
      → Repeats x0 y0 w ps ns us j a b
  pub same : (a b : ℕ) → IsInFrame w h a b → IsGiven x0 y0 us a b → IsUnchanged w ps ns a b
      → Uncovers x0 y0 w ps ns us a b

-- no unskipped wide cell covers column a from before
pub record IsFree (w : ℕ) (cells : List Cell) (a b : ℕ) : Type 0 where
  pub free : (k : ℕ) → CoversColumn w cells k a b → ⊥

-- nor one with a style that shows on blanks
pub record IsDark (w : ℕ) (cells : List Cell) (a b : ℕ) : Type 0 where
  pub dark : (k : ℕ) → CoversColumn w cells k a b → shows_on_blank (cell_at w cells k b) ≡ true → ⊥

-- a given wide cell with U+FE0F in column j covers column a
pub record Varies (x0 y0 w : ℕ) (ps ns : List Cell) (us : List Update) (j a b : ℕ) : Type 0 where
  pub given : IsGiven x0 y0 us j b
  pub covers : CoversColumn w ns j a b
  pub unforced : is_forced (cell_at w ns j b) ≡ false
  pub variation : has_fe0f (cell_at w ns j b) ≡ true
  pub dark : IsDark w ps j b

-- a former wide cell with a visible style, if a cell that isn't wide is given in column j, covers column a
pub record Bares (x0 y0 w : ℕ) (ps ns : List Cell) (us : List Update) (j a b : ℕ) : Type 0 where
  pub given : IsGiven x0 y0 us j b
  pub covers : CoversColumn w ps j a b
  pub visible : shows_on_blank (cell_at w ps j b) ≡ true
  pub unforced : is_forced (cell_at w ns j b) ≡ false
  pub narrow : width_of (cell_at w ns j b) ≤ 1
  pub free : IsFree w ns j b

-- what screens may leave there is given again: after a given wide cell with U+FE0F each unskipped column
-- where something else stood, and under a former wide cell with a visible style each unskipped column
pub record IsComplete (x0 y0 w h : ℕ) (ps ns : List Cell) (us : List Update) : Type 0 where
  pub blanks : (a b j : ℕ) → IsInFrame w h a b → Varies x0 y0 w ps ns us j a b
      → is_skipped (cell_at w ns a b) ≡ false → is_same_symbol (cell_at w ps a b) (cell_at w ns a b) ≡ false
      → IsGiven x0 y0 us a b
  pub refreshes : (a b j : ℕ) → IsInFrame w h a b → Bares x0 y0 w ps ns us j a b
      → is_skipped (cell_at w ns a b) ≡ false → IsFree w ns a b → IsGiven x0 y0 us a b
