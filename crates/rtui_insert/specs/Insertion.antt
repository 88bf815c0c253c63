-- Rows that come to those above a viewport, however the screen is scrolled.
use Rattle.std.specs.Prelude.{◌≡◌, ℕ, ◌+◌, ◌<◌, ◌≤◌, ◌++◌, List, [], ◌∷◌, length, slice_index_or}
use Rattle.rtui_geometry.specs.declared.rect.Rect.{Rect}
use Rattle.rtui_cell.specs.Look.{Look}
use Rattle.rtui_diff.specs.Shows.{RowAgrees}
use Rattle.rtui_buffer.specs.BufferData.{BufferData}
use Rattle.rtui_backend.specs.Screen.{Screen}

-- one row for each of n rows of a buffer, from row i on, that agrees with it
pub record ArePartOf (s : BufferData) (i n : ℕ) (rows : List (List Look)) : Type 0 where
  pub count : length rows ≡ n
  pub agree : (b : ℕ) → b < n → RowAgrees s.area.width s.cells (i + b) (slice_index_or rows b [])

-- exactly n rows of a buffer, from row i on, were appended, in order
pub record AppendsPart (s : BufferData) (i n : ℕ) (old new : List (List Look)) : Type 0 where
  pub rows : List (List Look)
  pub appended : new ≡ old ++ rows
  pub agree : ArePartOf s i n rows

-- one row for each row of a buffer, in order, that agrees with it
pub record AreRowsOf (sheet : BufferData) (rows : List (List Look)) : Type 0 where
  pub count : length rows ≡ sheet.area.height
  pub agree : (b : ℕ) → b < sheet.area.height
      → RowAgrees sheet.area.width sheet.cells b (slice_index_or rows b [])

-- the rows of these buffers, one buffer after the other
abbrev pub AreRowsOfAll : List BufferData → List (List Look) → Type 0
AreRowsOfAll [] rows = rows ≡ []
AreRowsOfAll (sheet ∷ sheets) rows = (first : List (List Look)) × (rest : List (List Look))
    × (rows ≡ first ++ rest) × AreRowsOf sheet first × AreRowsOfAll sheets rest

-- exactly the rows of these buffers were appended, in order
pub record AppendsRows (sheets : List BufferData) (old new : List (List Look)) : Type 0 where
  pub rows : List (List Look)
  pub appended : new ≡ old ++ rows
  pub agree : AreRowsOfAll sheets rows

-- the size of a screen stays, and whether its cursor is visible
pub record KeepsSizeAndVisibility (old new : Screen) : Type 0 where
  pub width : new.width ≡ old.width
  pub height : new.height ≡ old.height
  pub visible : new.visible ≡ old.visible

-- a screen of h rows and of the buffer's width, on which a viewport's rows lie
pub record HasPlaceAbove (s : BufferData) (r : Rect) (h : ℕ) (screen : Screen) : Type 0 where
  pub width : s.area.width ≡ screen.width
  pub height : h ≡ screen.height
  pub viewport : r.y + r.height ≤ h
