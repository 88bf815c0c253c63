-- A grid of dots over a range of coordinates: where a point stands in it, and what a dot makes of its cell.
use Rattle.std.specs.Prelude.{◌≡◌, ℕ, ◌+◌, ◌-◌, ◌*◌, ◌/◌, ◌%◌, ◌^◌, Bool, true, false, ◌&&◌, ◌==◌, nat_le}
use Rattle.std.specs.Prelude.{nat_lt, min, max, List, [], ◌∷◌, replicate, ℤ, ◌-ℤ◌, int_lt, int_le}
use Rattle.std.specs.Prelude.{unsigned_abs, bit_or, slice_index, slice_index_or, slice_set, if◌then◌else◌}
use Rattle.rtui_style.specs.declared.color.Color.{Color}
use Rattle.rtui_style.specs.declared.color.Color.TheVariants.{Reset}
use Rattle.rtui_style.specs.contracts.color.ColorPartialEq.TheImpl as color_equality
use Rattle.rtui_symbols.specs.declared.marker.Marker.{Marker}
use Rattle.rtui_symbols.specs.declared.marker.Marker.TheVariants.{Braille, HalfBlock, Quadrant, Sextant, Octant}
use Rattle.rtui_dots.specs.declared.scale.Scale.{Scale}
use Rattle.rtui_dots.specs.declared.painter.{DotCell.DotCell, Painter.Painter}

-- how many dots a cell has side by side, and how many one over the other
abbrev pub dots_across : Marker → ℕ
dots_across Braille = 2
dots_across Quadrant = 2
dots_across Sextant = 2
dots_across Octant = 2
dots_across m = 1

abbrev pub dots_down : Marker → ℕ
dots_down Braille = 4
dots_down HalfBlock = 2
dots_down Quadrant = 2
dots_down Sextant = 3
dots_down Octant = 4
dots_down m = 1

-- how many dots a grid has in a row and in a column
abbrev pub dot_columns : Scale → ℕ
dot_columns s = s.columns * dots_across s.marker

abbrev pub dot_rows : Scale → ℕ
dot_rows s = s.rows * dots_down s.marker

-- A grid's columns and rows are counted from so many before the first one, so that what stands left of it or
-- above it has numbers, too. What is farther away counts as so far.
abbrev pub far : ℕ
far = 2 ^ 60

-- the place, from 0 on, among so many that share a whole length, of what lies n from the first one, rounded
-- down
abbrev pub share : ℕ → ℕ → ℕ → ℕ
share n whole count = n * (count - 1) / whole

-- the nearest such place; of two as near the one farther from the first
abbrev pub nearest : ℕ → ℕ → ℕ → ℕ
nearest n whole count = (2 * (n * (count - 1)) + whole) / (2 * whole)

-- the nearest place of a grid; outside it, if it lies before the first one or after the last one
abbrev pub dot_place : Bool → Bool → ℕ → ℕ → ℕ → ℕ
dot_place true behind n whole count = far - min (max (nearest n whole count) 1) far
dot_place false true n whole count = far + min (max (nearest n whole count) count) far
dot_place false false n whole count = far + min (nearest n whole count) far

-- how far two numbers are apart
abbrev pub span : ℤ → ℤ → ℕ
span a b = unsigned_abs (a -ℤ b)

-- whether the bounds have points between them
abbrev pub is_open : Scale → Bool
is_open s = int_lt s.left s.right && int_lt s.bottom s.top

-- the column and the row among the cells of a point
abbrev pub column_of_cell : Scale → ℤ → ℕ
column_of_cell s x = share (span x s.left) (span s.right s.left) s.columns

abbrev pub row_of_cell : Scale → ℤ → ℕ
row_of_cell s y = share (span y s.top) (span s.top s.bottom) s.rows

-- whether a point lies within the bounds
abbrev pub lies_between : ℤ → ℤ → ℤ → Bool
lies_between low high n = int_le low n && int_le n high

abbrev pub lies_within : Scale → ℤ → ℤ → Bool
lies_within s x y = lies_between s.left s.right x && lies_between s.bottom s.top y

abbrev pub has_point : Scale → ℤ → ℤ → Bool
has_point s x y = is_open s && lies_within s x y

-- the column and the row among the dots of a point: columns from the left, and rows from the top
abbrev pub dot_column : Scale → ℤ → ℕ
dot_column s x = dot_place (int_lt x s.left) (int_lt s.right x) (span x s.left) (span s.right s.left)
    (dot_columns s)

abbrev pub dot_row : Scale → ℤ → ℕ
dot_row s y = dot_place (int_lt s.top y) (int_lt y s.bottom) (span y s.top) (span s.top s.bottom) (dot_rows s)

-- a dot: its column, its row and its colour
pub record Dot : Type 0 where
  pub x : ℕ
  pub y : ℕ
  pub color : Color

abbrev pub point_dot : Scale → ℤ → ℤ → Color → Dot
point_dot s x y color = record { x = dot_column s x; y = dot_row s y; color = color }

-- a cell without dots
abbrev pub no_dots : DotCell
no_dots = record { pattern = 0; color = Reset; lower = Reset }

-- whether the two halves of a cell have one colour
unfoldable pub has_one_color : DotCell → Bool
has_one_color d = color_equality.eq-value.it d.color d.lower

-- the cell of a dot, by its column and row in the grid
abbrev pub cell_column : Marker → ℕ → ℕ
cell_column m x = x / dots_across m

abbrev pub cell_row : Marker → ℕ → ℕ
cell_row m y = y / dots_down m

-- the numbers of the dots of a Braille pattern, row by row
abbrev pub braille_dots : List ℕ
braille_dots = 0x01 ∷ 0x08 ∷ 0x02 ∷ 0x10 ∷ 0x04 ∷ 0x20 ∷ 0x40 ∷ 0x80 ∷ []

-- those of quadrants, sextants and octants, row by row: each a bit
abbrev pub pixels : List ℕ
pixels = 0x01 ∷ 0x02 ∷ 0x04 ∷ 0x08 ∷ 0x10 ∷ 0x20 ∷ 0x40 ∷ 0x80 ∷ []

-- a dot's number in the pattern of its cell: of half blocks 1 is the upper one and 2 the lower one
abbrev pub dot_number : Marker → ℕ → ℕ → ℕ
dot_number Braille x y = slice_index braille_dots (y % 4 * 2 + x % 2)
dot_number HalfBlock x y = y % 2 + 1
dot_number Quadrant x y = slice_index pixels (y % 2 * 2 + x % 2)
dot_number Sextant x y = slice_index pixels (y % 3 * 2 + x % 2)
dot_number Octant x y = slice_index pixels (y % 4 * 2 + x % 2)
dot_number m x y = 1

-- whether a dot's number is that of the lower half of a cell
abbrev pub is_lower : Marker → ℕ → Bool
is_lower HalfBlock n = n == 2
is_lower m n = false

-- a cell with one dot more, which gives it its colour; the lower half of a cell has a colour of its own
abbrev pub with_dot_number : Marker → ℕ → Color → DotCell → DotCell
with_dot_number m n color c =
    if is_lower m n then record c { pattern = bit_or c.pattern n; lower = color }
    else record c { pattern = bit_or c.pattern n; color = color }

-- whether a grid has a dot
abbrev pub has_dot : Scale → ℕ → ℕ → Bool
has_dot s x y = nat_le far x && nat_lt x (far + dot_columns s) && nat_le far y && nat_lt y (far + dot_rows s)

abbrev pub index_of : Scale → ℕ → ℕ → ℕ
index_of s x y = cell_row s.marker y * s.columns + cell_column s.marker x

-- the cells of a grid, row by row, with one dot more, if the grid has it
abbrev pub with_dot : Scale → Dot → List DotCell → List DotCell
with_dot s d cells =
    let i = index_of s (d.x - far) (d.y - far) in
    let n = dot_number s.marker (d.x - far) (d.y - far) in
    if has_dot s d.x d.y then slice_set cells i
    (with_dot_number s.marker n d.color (slice_index_or cells i no_dots)) else cells

-- with some dots, one after the other
abbrev pub with_dots : Scale → List Dot → List DotCell → List DotCell
with_dots s [] cells = cells
with_dots s (d ∷ ds) cells = with_dots s ds (with_dot s d cells)

-- what a painter has after it sets some dots: their colours in their cells, and all else as before
pub record SetsDots (dots : List Dot) (old new : Painter) : Type 0 where
  pub cells : new.cells.items ≡ with_dots old.scale dots old.cells.items
  pub scale : new.scale ≡ old.scale

-- a grid without dots
abbrev pub empty_grid : Scale → List DotCell
empty_grid s = replicate (s.columns * s.rows) no_dots
