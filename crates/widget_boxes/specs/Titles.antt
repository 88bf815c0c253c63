-- Titles in a row: where each stands, and what they make of a buffer.
use Rattle.std.specs.Prelude.{◌≡◌, ℕ, Bool, true, false, ◌+◌, ◌-◌, ◌/◌, ◌==◌, nat_le, min, List, [], ◌∷◌}
use Rattle.std.specs.Prelude.{Some, if◌then◌else◌, sum_by}
use Rattle.ratatui_core.specs.{Layout.Rect, declared.layout.HorizontalAlignment.HorizontalAlignment}
use Rattle.ratatui_core.specs.declared.layout.HorizontalAlignment.TheVariants.{Left, Center, Right}
use Rattle.ratatui_core.specs.{Style.Style, Text.LineData, Text.line_width, Buffer.BufferData}
use Rattle.ratatui_core.specs.{Buffer.IsStyled, Widgets.RendersLine}

-- whether both alignments are the same
abbrev pub is_same_alignment : HorizontalAlignment → HorizontalAlignment → Bool
is_same_alignment Left Left = true
is_same_alignment Left Center = false
is_same_alignment Left Right = false
is_same_alignment Center Left = false
is_same_alignment Center Center = true
is_same_alignment Center Right = false
is_same_alignment Right Left = false
is_same_alignment Right Center = false
is_same_alignment Right Right = true

-- how many columns a title takes, at most 65535
abbrev pub title_width : LineData → ℕ
title_width l = min (line_width l.spans) 65535

-- how many columns titles take with one between each two, at most 65535
abbrev pub titles_width : List LineData → ℕ
titles_width ls = min (sum_by (λ l. title_width l + 1) ls - 1) 65535

-- the first columns of an area, and its last ones
abbrev pub first_columns : ℕ → Rect → Rect
first_columns n r = record r { width = min n r.width }

abbrev pub last_columns : ℕ → Rect → Rect
last_columns n r = record r { x = r.x + (r.width - min n r.width); width = min n r.width }

-- an area without its first columns, and without its last ones
abbrev pub without_first : ℕ → Rect → Rect
without_first n r = record r { x = min (r.x + n) 65535; width = r.width - n }

abbrev pub without_last : ℕ → Rect → Rect
without_last n r = record r { width = r.width - n }

-- a title where it stands: a line, and its area
pub record PlacedTitle : Type 0 where
  pub line : LineData
  pub area : Rect

abbrev pub title_at : LineData → Rect → PlacedTitle
title_at l r = record { line = l; area = r }

-- titles from the left on, with a column between each two, as far as the row has columns
abbrev pub from_left : Rect → List LineData → List PlacedTitle
from_left r [] = []
from_left r (l ∷ ls) = if r.width == 0 then [] else title_at l (first_columns (title_width l) r) ∷ from_left
    (without_first (title_width l + 1) r) ls

-- titles from the right on
abbrev pub from_right : Rect → List LineData → List PlacedTitle
from_right r [] = []
from_right r (l ∷ ls) = if r.width == 0 then [] else title_at l (last_columns (title_width l) r) ∷ from_right
    (without_last (title_width l + 1) r) ls

-- how many columns show of a title that begins n columns left of a row
abbrev pub shown_width : ℕ → Rect → LineData → ℕ
shown_width n r l = min (title_width l) r.width - n

-- the side at which a title stands of which n columns are cut at the left
abbrev pub side_of : ℕ → HorizontalAlignment
side_of n = if n == 0 then Left else Right

-- a line aligned so
abbrev pub aligned : HorizontalAlignment → LineData → LineData
aligned alignment l = record l { alignment = Some alignment }

-- titles that begin n columns left of a row: what begins left of it is cut at the left, and all else at the
-- right
abbrev pub from_outside : ℕ → Rect → List LineData → List PlacedTitle
from_outside n r [] = []
from_outside n r (l ∷ ls) =
    if r.width == 0 then []
    else title_at (aligned (side_of n) l) (first_columns (shown_width n r l) r)
    ∷ from_outside (n - shown_width n r l - 1) (without_first (shown_width n r l + 1) r) ls

-- titles in the centre, as one; if they don't fit, as many columns are cut on each side
abbrev pub from_centre : Rect → List LineData → List PlacedTitle
from_centre r ls =
    if nat_le (titles_width ls) r.width then from_left (without_first ((r.width - titles_width ls) / 2) r) ls
    else from_outside ((titles_width ls - r.width) / 2) r ls

-- a title: a style under it, and its line in its area
pub record RendersTitle (style : Style) (t : PlacedTitle) (old new : BufferData) : Type 0 where
  pub laid : BufferData
  pub styled : IsStyled t.area style old laid
  pub line : RendersLine t.line t.area laid new

-- one thing done after another
pub record InTurn (f g : BufferData → BufferData → Type 0) (old new : BufferData) : Type 0 where
  pub between : BufferData
  pub first : f old between
  pub second : g between new

-- a thing done, or none
abbrev pub DoesIf : Bool → (BufferData → BufferData → Type 0) → BufferData → BufferData → Type 0
DoesIf true f old new = f old new
DoesIf false f old new = new ≡ old

-- titles, each rendered after the ones before
abbrev pub RendersTitles : Style → List PlacedTitle → BufferData → BufferData → Type 0
RendersTitles style [] old new = new ≡ old
RendersTitles style (t ∷ ts) old new = InTurn (RendersTitle style t) (RendersTitles style ts) old new
