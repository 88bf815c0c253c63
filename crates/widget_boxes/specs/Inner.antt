-- Words that only private contracts use: they follow the code.
use Rattle.std.specs.Prelude.{◌≡◌, ℕ, ◌+◌, ◌-◌, nat_lt, max, zero, suc, List, Result, IsOk, OnOk, if◌then◌else◌}
use Rattle.std.specs.{declared.alloc.AllocError.AllocError}
use Rattle.ratatui_core.specs.Layout.{Rect, Position, HasPosition}
use Rattle.ratatui_core.specs.{Widgets.ChangesWithin}
use Rattle.ratatui_core.specs.Style.{Style}
use Rattle.ratatui_core.specs.Buffer.{BufferData, Cell, MakesEach, cell_in, position_of, styled, width_of}
use Rattle.widget_boxes.specs.{declared.block.Block.Block}
use Rattle.widget_boxes.specs.Boxes.{Stroke, stroked, IsShortUnder, IsOffTitles}

-- strokes within an area are drawn, or memory is refused; nothing outside the area changed
pub record DrawsStrokes {A : Type 0} (b : Block) (area : Rect) (ss : List Stroke)
    (result : Result A AllocError) (old new : BufferData) : Type 0 where
  pub within : ChangesWithin area old new
  pub ok : OnOk result (MakesEach (stroked b ss) old new)
  pub short : ((p : Position) → HasPosition old.area p → IsShortUnder b ss p (cell_in old p)) → IsOk result

-- a buffer changed only where titles stand
pub record KeepsOffTitles (b : Block) (r : Rect) (old new : BufferData) : Type 0 where
  pub area : new.area ≡ old.area
  pub room : new.room ≡ old.room
  pub at : (p : Position) → HasPosition old.area p → IsOffTitles b r p → cell_in new p ≡ cell_in old p

-- where the symbols of so many columns of a row end, from one on: the greatest of their ends
unfoldable pub ends_of : BufferData → ℕ → ℕ → ℕ → ℕ
ends_of s y from zero = 0
ends_of s y from (suc n) = max (ends_of s y from n) (from + n + width_of (cell_in s (position_of (from + n, y))))

-- a cell in a style, unless a symbol before it in its row of a part reaches over it
abbrev pub highlighted : Style → Rect → BufferData → Position → Cell → Cell
highlighted style part s p c = if nat_lt p.x (ends_of s p.y part.x (p.x - part.x)) then c else styled style c
