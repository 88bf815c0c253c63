-- Painting pieces of text into a list of cells, one after the other.
use Rattle.std.specs.Prelude.{ℕ, ⊤, Bool, true, ◌+◌, ◌-◌, ◌≡◌, ◌≤◌, ◌<◌, nat_le, nat_lt, List, [], ◌∷◌}
use Rattle.std.specs.Prelude.{length, take, map, filter, sum_by, if◌then◌else◌, Some, slice_index_or}
use Rattle.unicode_segmentation.specs.Grapheme.{graphemes}
use Rattle.rtui_style.specs.{declared.Style.Style, Style.new_style}
use Rattle.rtui_cell.specs.{declared.cell.Cell.Cell, Cell.empty_cell, Cell.styled, Cell.IsUnmarked}
use Rattle.rtui_cell.specs.{Width.text_width}
pub use Rattle.rtui_text.specs.Graphemes.{has_control}
use Rattle.rtui_diff.specs.Cells.{cell}

-- the columns in which a grapheme is painted: none if it has a control character
unfoldable pub painted_width : List ℕ → ℕ
painted_width text = if has_control text then 0 else text_width text

-- a grapheme that is painted: no control character, and some column
abbrev pub has_painted_width : List ℕ → Bool
has_painted_width text = nat_lt 0 (painted_width text)

-- the graphemes from the first on, as far as there is room
unfoldable pub fitting : ℕ → List (List ℕ) → List (List ℕ)
fitting room [] = []
fitting room (g ∷ gs) = if nat_le (text_width g) room then g ∷ fitting (room - text_width g) gs else []

-- the graphemes of a list that are painted in this room
unfoldable pub kept : ℕ → List (List ℕ) → List (List ℕ)
kept room gs = fitting room (filter has_painted_width gs)

-- of these graphemes, the longest front whose widths sum to at most the room
pub record IsLongestFront (room : ℕ) (gs front : List (List ℕ)) : Type 0 where
  pub first : front ≡ take (length front) gs
  pub fits : sum_by text_width front ≤ room
  pub longest : (n : ℕ) → n ≤ length gs → sum_by text_width (take n gs) ≤ room → n ≤ length front

-- a grapheme and the style that it is painted in
pub record Piece : Type 0 where
  pub style : Style
  pub symbol : List ℕ

abbrev pub piece_of : Style → List ℕ → Piece
piece_of s g = record { style = s; symbol = g }

abbrev pub pieces : Style → List (List ℕ) → List Piece
pieces s gs = map (piece_of s) gs

-- the pieces of a text that are painted in this room
abbrev pub text_pieces : ℕ → Style → List ℕ → List Piece
text_pieces room s text = pieces s (kept room (graphemes true text))

-- how many columns a piece takes
abbrev pub piece_width : Piece → ℕ
piece_width p = text_width p.symbol

-- how many columns pieces take
abbrev pub columns : List Piece → ℕ
columns ps = sum_by piece_width ps

-- each piece takes at least one column
abbrev pub AreWide : List Piece → Type 0
AreWide [] = ⊤
AreWide (p ∷ ps) = (0 < piece_width p) × AreWide ps

-- a former cell that shows a piece
abbrev pub shown : Piece → Cell → Cell
shown p c = styled p.style (record c { symbol = Some p.symbol })

-- outside a part, from one place up to another, the cells are the same
pub record IsSameOutside (from to : ℕ) (old new : List Cell) : Type 0 where
  pub count : length new ≡ length old
  pub before : (k : ℕ) → k < from → cell new k ≡ cell old k
  pub behind : (k : ℕ) → to ≤ k → cell new k ≡ cell old k

-- if a former cell has no option and no flag the new one has none
pub record KeepsUnmarked (old new : List Cell) : Type 0 where
  pub at : (k : ℕ) → IsUnmarked (cell old k) → IsUnmarked (cell new k)

abbrev pub piece_at : List Piece → ℕ → Piece
piece_at ps k = slice_index_or ps k (piece_of new_style [])

-- the place of a piece: the sum of the widths before it
abbrev pub place_of : ℕ → List Piece → ℕ → ℕ
place_of at ps k = at + columns (take k ps)

-- What painting means, column by column: each piece stands at the sum of the widths before it, its symbol and
-- its style over the former cell; the other columns that it takes are empty; all else is as before.
pub record HasPieces (at : ℕ) (ps : List Piece) (old new : List Cell) : Type 0 where
  pub starts : (k : ℕ) → k < length ps → cell new (place_of at ps k) ≡ shown (piece_at ps k)
      (cell old (place_of at ps k))
  pub behind : (k j : ℕ) → k < length ps → 0 < j → j < piece_width (piece_at ps k)
      → cell new (place_of at ps k + j) ≡ empty_cell
  pub outside : IsSameOutside at (at + columns ps) old new
