-- Painting lines of spans.
use Rattle.std.specs.Prelude.{ℕ, ◌-◌, ◌*◌, ◌<◌, ◌≡◌, List, [], ◌∷◌, ◌++◌, length, map, slice_index_or}
use Rattle.std.specs.{List.flat_map, Borrow.Bor}
use Rattle.rtui_geometry.specs.declared.rect.Rect.{Rect}
use Rattle.rtui_style.specs.{declared.Style.Style, Style.patch}
use Rattle.rtui_cell.specs.declared.cell.Cell.{Cell}
use Rattle.rtui_text.specs.Text.{SpanData, LineData, line_of, raw_line}
pub use Rattle.rtui_text.specs.Widths.{widest}
use Rattle.rtui_buffer.specs.{BufferData.BufferData, BufferData.empty_cells, BufferData.row_cells}
use Rattle.rtui_buffer.specs.{PaintedText.room_at, Painted.painted}
use Rattle.rtui_buffer.specs.Painting.{Piece, text_pieces, columns, HasPieces}

-- the pieces of spans one after the other, each span in the width that is left, its style over the base style
unfoldable pub line_pieces : ℕ → Style → List SpanData → List Piece
line_pieces room base [] = []
line_pieces room base (s ∷ ss) =
    let ps = text_pieces room (patch base s.style) s.content in ps ++ line_pieces (room - columns ps) base ss

-- the pieces of a line that are painted at a column, in at most max columns
abbrev pub line_pieces_at : Rect → ℕ → ℕ → LineData → List Piece
line_pieces_at r x max l = line_pieces (room_at r x max) l.style l.spans

-- a row of w cells that shows a line and nothing else
unfoldable pub line_row : ℕ → LineData → List Cell
line_row w l = painted 0 (line_pieces w l.style l.spans) (empty_cells w)

-- rows of w cells that show these lines and nothing else
abbrev pub line_rows : ℕ → List LineData → List Cell
line_rows w ls = flat_map (line_row w) ls

abbrev pub line_at : List LineData → ℕ → LineData
line_at ls k = slice_index_or ls k (line_of [])

-- in rows of w cells: a row for each line, with its pieces painted on empty cells
pub record ShowsLines (w : ℕ) (ls : List LineData) (cells : List Cell) : Type 0 where
  pub count : length cells ≡ w * length ls
  pub row : (k : ℕ) → k < length ls → HasPieces 0 (line_pieces w (line_at ls k).style (line_at ls k).spans)
      (empty_cells w) (row_cells w cells k)

-- the area of a buffer with these lines
abbrev pub lines_area : List LineData → Rect
lines_area ls = record { x = 0; y = 0; width = widest ls; height = length ls }

-- a buffer with a line in each row, as wide as the widest of them
pub record IsOfLines (ls : List LineData) (s : BufferData) : Type 0 where
  pub area : s.area ≡ lines_area ls
  pub cells : s.cells ≡ line_rows (widest ls) ls
  pub rows : ShowsLines (widest ls) ls s.cells

-- an unstyled line for each text
abbrev pub raw_lines : List (Bor (List ℕ)) → List LineData
raw_lines texts = map (λ text. raw_line text.now) texts
