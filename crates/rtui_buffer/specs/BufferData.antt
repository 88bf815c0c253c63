-- What a buffer is: an area, its cells row by row, and for how many cells there is room.
use Rattle.std.specs.Prelude.{◌≡◌, ℕ, ◌<◌, ◌≤◌, ◌+◌, ◌-◌, ◌*◌, ◌/◌, ◌%◌, ◌++◌, List, take, drop, length}
use Rattle.std.specs.Prelude.{replicate, slice_index_or, slice_set}
use Rattle.rtui_geometry.specs.{declared.position.Position.Position, declared.rect.Rect.Rect, Rect.EdgesFit}
use Rattle.rtui_cell.specs.{declared.cell.Cell.Cell, Cell.empty_cell, Equality.IsEqual}

pub record BufferData : Type 0 where
  pub area : Rect
  pub cells : List Cell
  pub room : ℕ

-- how many cells an area has
abbrev pub area_size : Rect → ℕ
area_size r = r.width * r.height

-- as many cells as the area has, room for them, and edges that are coordinates
pub record IsBuffer (area : Rect) (cells : List Cell) (room : ℕ) : Type 0 where
  pub count : length cells ≡ area_size area
  pub fits : length cells ≤ room
  pub edges : EdgesFit area

-- the cells of an area fit into the room of the list
abbrev pub HasRoomFor : Rect → BufferData → Type 0
HasRoomFor r s = area_size r ≤ s.room

abbrev pub position_of : ℕ × ℕ → Position
position_of p = record { x = p.0; y = p.1 }

-- the place of a position, row by row
abbrev pub cell_index : Rect → Position → ℕ
cell_index r p = (p.y - r.y) * r.width + (p.x - r.x)

-- the position of a place
abbrev pub place_position : Rect → ℕ → ℕ × ℕ
place_position r i = (r.x + i % r.width, r.y + i / r.width)

-- the cell at a position
abbrev pub cell_in : BufferData → Position → Cell
cell_in s p = slice_index_or s.cells (cell_index s.area p) empty_cell

-- the sheet with another cell at a position
abbrev pub with_cell : BufferData → Position → Cell → BufferData
with_cell s p c = record s { cells = slice_set s.cells (cell_index s.area p) c }

-- the first cells, one for each of the former
abbrev pub refilled : List Cell → List Cell → List Cell
refilled former cells = take (length former) (cells ++ drop (length cells) former)

-- the sheet with others in place of its first cells
abbrev pub with_cells : BufferData → List Cell → BufferData
with_cells s cells = record s { cells = refilled s.cells cells }

-- the rectangle with its corner at a position
abbrev pub moved_to : Position → Rect → Rect
moved_to p r = record r { x = p.x; y = p.y }

-- row k of rows of w cells
abbrev pub row_cells : ℕ → List Cell → ℕ → List Cell
row_cells w cells k = take w (drop (k * w) cells)

-- the cells of a row of the area
abbrev pub buffer_row : BufferData → ℕ → List Cell
buffer_row s y = row_cells s.area.width s.cells (y - s.area.y)

-- the row lies in the area
pub record HasRow (r : Rect) (y : ℕ) : Type 0 where
  pub top : r.y ≤ y
  pub bottom : y < r.y + r.height

-- n empty cells
abbrev pub empty_cells : ℕ → List Cell
empty_cells n = replicate n empty_cell

-- the first n cells, and empty ones if there are fewer
abbrev pub resized : ℕ → List Cell → List Cell
resized n cells = take n cells ++ empty_cells (n - length cells)

-- the cells of an area, all empty
pub record IsEmptied (over : Rect) (s : BufferData) : Type 0 where
  pub area : s.area ≡ over
  pub cells : s.cells ≡ empty_cells (area_size over)

-- the same but for room
pub record IsSameBuffer (s t : BufferData) : Type 0 where
  pub area : t.area ≡ s.area
  pub cells : t.cells ≡ s.cells

-- the same area, and equal cells
pub record IsEqualBuffer (s t : BufferData) : Type 0 where
  pub area : s.area ≡ t.area
  pub count : length s.cells ≡ length t.cells
  pub cells : (k : ℕ) → k < length s.cells → IsEqual (slice_index_or s.cells k empty_cell)
      (slice_index_or t.cells k empty_cell)
