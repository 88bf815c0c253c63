-- Rows that come in above a viewport, part of the screen after part being scrolled for them.
use Rattle.std.specs.Prelude.{◌≡◌, ◌⊎◌, ℕ, ◌+◌, ◌-◌, ◌*◌, ◌<◌, ◌≤◌, min}
use Rattle.rtui_geometry.specs.declared.rect.Rect.{Rect}
use Rattle.rtui_buffer.specs.{BufferData.BufferData, Shown.IsSettledBuffer}
use Rattle.rtui_backend.specs.Screen.{Screen, rows_above}
use Rattle.rtui_insert.specs.Rows.{RowsFit, IsBlankAt, IsNarrowBuffer, nonempty_cells, WritesAtMost}
use Rattle.rtui_insert.specs.Insertion.{KeepsSizeAndVisibility, HasPlaceAbove, AppendsPart}

-- the first k rows of a buffer were scrolled off from the screen's first row, which is blank after them, and
-- all rows below it are as before;
-- at most the cells of the rows were written, and of a narrow buffer at most one whole row and else what
-- isn't blank
pub record HasPushed (s : BufferData) (k : ℕ) (old new : Screen) : Type 0 where
  pub shape : KeepsSizeAndVisibility old new
  pub above : AppendsPart s 0 k (rows_above old 0) (rows_above new 0)
  pub blank : 0 < k → IsBlankAt 1 0 new
  pub below : (a b : ℕ) → a < old.width → b < old.height → 0 < b → new.grid a b ≡ old.grid a b
  pub few : IsNarrowBuffer s → WritesAtMost (min k 1 * s.area.width + nonempty_cells s 0 k) old new
  pub most : WritesAtMost (s.area.width * k) old new

-- n rows of a buffer, from row i on, came to those above row d, and the screen's rows from row d on are as
-- before; at most the rows' cells were written, and of a narrow buffer what isn't blank
pub record HasRaised (s : BufferData) (i n d : ℕ) (old new : Screen) : Type 0 where
  pub shape : KeepsSizeAndVisibility old new
  pub above : AppendsPart s i n (rows_above old d) (rows_above new d)
  pub below : (a b : ℕ) → a < old.width → b < old.height → d ≤ b → new.grid a b ≡ old.grid a b
  pub few : IsNarrowBuffer s → WritesAtMost (nonempty_cells s i n) old new
  pub most : WritesAtMost (s.area.width * n) old new

-- the first n rows of a buffer came in at a viewport's top, and its rows moved down by n; the rows below
-- those are as before; at most the rows' cells were written, and of a narrow buffer what isn't blank
pub record HasLowered (s : BufferData) (n : ℕ) (r : Rect) (old new : Screen) : Type 0 where
  pub shape : KeepsSizeAndVisibility old new
  pub above : AppendsPart s 0 n (rows_above old r.y) (rows_above new (r.y + n))
  pub moved : (a b : ℕ) → a < old.width → b < r.height → new.grid a (r.y + n + b) ≡ old.grid a (r.y + b)
  pub below : (a b : ℕ) → a < old.width → b < old.height → r.y + n + r.height ≤ b
      → new.grid a b ≡ old.grid a b
  pub few : IsNarrowBuffer s → WritesAtMost (nonempty_cells s 0 n) old new
  pub most : WritesAtMost (s.area.width * n) old new

-- rows of a buffer are being pushed off from the screen's first row: so many of them were, the next one may
-- stand on the first row, and all rows below it are as before
pub record IsPushing (s : BufferData) (old new : Screen) : Type 0 where
  pub count : ℕ
  pub inside : count ≤ s.area.height
  pub shape : KeepsSizeAndVisibility old new
  pub above : AppendsPart s 0 count (rows_above old 0) (rows_above new 0)
  pub below : (a b : ℕ) → a < old.width → b < old.height → 0 < b → new.grid a b ≡ old.grid a b

-- rows of a buffer, from row i on, are coming to those above row d: so many of them came, then there may be
-- room for further ones, and the screen's rows from row d on are as before
pub record IsRaising (s : BufferData) (i d : ℕ) (old new : Screen) : Type 0 where
  pub count : ℕ
  pub inside : i + count ≤ s.area.height
  pub room : ℕ
  pub shape : KeepsSizeAndVisibility old new
  pub above : AppendsPart s i count (rows_above old d) (rows_above new (d - room))
  pub below : (a b : ℕ) → a < old.width → b < old.height → d ≤ b → new.grid a b ≡ old.grid a b

-- a viewport's rows moved down by n over blank ones; the rows above it and those below it are as before
pub record HasMadeRoom (n : ℕ) (r : Rect) (old new : Screen) : Type 0 where
  pub shape : KeepsSizeAndVisibility old new
  pub above : rows_above new r.y ≡ rows_above old r.y
  pub blank : IsBlankAt n r.y new
  pub moved : (a b : ℕ) → a < old.width → b < r.height → new.grid a (r.y + n + b) ≡ old.grid a (r.y + b)
  pub below : (a b : ℕ) → a < old.width → b < old.height → r.y + n + r.height ≤ b
      → new.grid a b ≡ old.grid a b

-- the first n rows of a buffer are coming in at a viewport's top: nothing changed yet, or there is room for
-- them, or they came
abbrev pub IsLowering : BufferData → ℕ → Rect → Screen → Screen → Type 0
IsLowering s n r old new = (new ≡ old) ⊎ (HasMadeRoom n r old new ⊎ HasLowered s n r old new)

-- how many of n rows push a viewport down on a screen of h rows
abbrev pub rows_down : ℕ → Rect → ℕ → ℕ
rows_down n r h = min n (h - (r.y + r.height))

-- all rows of a settled buffer of the screen's width were pushed off from the first row
abbrev pub PushesRows : BufferData → Screen → Screen → Type 0
PushesRows s old new = RowsFit s 1 0 old → IsSettledBuffer s → HasPushed s s.area.height old new

-- n rows of a settled buffer came in at the viewport's top
abbrev pub InsertsDown : BufferData → Rect → ℕ → Screen → Screen → ℕ → Type 0
InsertsDown s r h old new n = HasPlaceAbove s r h old → IsSettledBuffer s → HasLowered s n r old new

-- the rows of a settled buffer from row i on came to those above row d
abbrev pub InsertsUp : BufferData → ℕ → ℕ → Screen → Screen → Type 0
InsertsUp s i d old new = s.area.width ≡ old.width → d ≤ old.height → IsSettledBuffer s
    → HasRaised s i (s.area.height - i) d old new

-- the same while they are on their way
abbrev pub StartsPushing : BufferData → Screen → Screen → Type 0
StartsPushing s old new = RowsFit s 1 0 old → IsSettledBuffer s → IsPushing s old new

abbrev pub StartsLowering : BufferData → Rect → ℕ → Screen → Screen → Type 0
StartsLowering s r h old new = HasPlaceAbove s r h old → IsSettledBuffer s
    → IsLowering s (rows_down s.area.height r h) r old new

abbrev pub StartsRaising : BufferData → ℕ → ℕ → Screen → Screen → Type 0
StartsRaising s i d old new = s.area.width ≡ old.width → d ≤ old.height → IsSettledBuffer s
    → IsRaising s i d old new
