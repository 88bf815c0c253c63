-- Which rows of a table are shown, and where each stands.
use Rattle.std.specs.Prelude.{◌≡◌, ℕ, ◌+◌, ◌-◌, ◌<◌, ◌≤◌, ◌==◌, min, List, [], ◌∷◌, length, take, sum_by}
use Rattle.std.specs.Prelude.{Option, Some, None, if◌then◌else◌, slice_index_or, map}
use Rattle.ratatui_core.specs.{Layout.Rect, Style.new_style, Text.raw_text}
use Rattle.widget_table.specs.declared.cell.Cell.{Cell}
use Rattle.widget_table.specs.declared.row.Row.{Row}

-- a cell of a plain text, without a style of its own
abbrev pub raw_cell : List ℕ → Cell
raw_cell text = record { content = raw_text text; style = new_style }

-- a row of these cells, one row high, without margins and style
pub record IsNewRow (cells : List Cell) (row : Row) : Type 0 where
  pub cells_are : row.cells.items ≡ cells
  pub one_high : row.height ≡ 1
  pub no_top_margin : row.top_margin ≡ 0
  pub no_bottom_margin : row.bottom_margin ≡ 0
  pub unstyled : row.style ≡ new_style

-- how many rows of the screen the cells of a row take with the margin above, and with both margins
abbrev pub upper_height : Row → ℕ
upper_height row = row.top_margin + row.height

abbrev pub full_height : Row → ℕ
full_height row = row.top_margin + row.height + row.bottom_margin

-- an area without its first rows, without its last ones, and these alone
abbrev pub below : ℕ → Rect → Rect
below n r = record r { y = r.y + min n r.height; height = r.height - min n r.height }

abbrev pub above : ℕ → Rect → Rect
above n r = record r { height = r.height - min n r.height }

abbrev pub first_rows : ℕ → Rect → Rect
first_rows n r = record r { height = min n r.height }

-- where the cells of a row stand in an area that begins with its margin
abbrev pub cells_area : Row → Rect → Rect
cells_area row r = first_rows row.height (below row.top_margin r)

-- the header stands above the rows, and the footer below them; if they don't fit the header is shown first
abbrev pub height_if : Option Row → ℕ
height_if None = 0
height_if (Some row) = full_height row

abbrev pub rows_area : Option Row → Option Row → Rect → Rect
rows_area header footer r = above (height_if footer) (below (height_if header) r)

abbrev pub footer_area : Option Row → Option Row → Rect → Rect
footer_area header footer r = below (rows_area header footer r).height (below (height_if header) r)

-- a row of a table where it stands, with its number
pub record PlacedRow : Type 0 where
  pub row : Row
  pub number : ℕ
  pub area : Rect

-- rows one below the other, the first of them of this number, as far as the area goes
abbrev pub stacked_rows : ℕ → Rect → List Row → List PlacedRow
stacked_rows k r [] = []
stacked_rows k r (row ∷ rows) =
    if r.height == 0 then []
    else record { row = row; number = k; area = cells_area row r }
    ∷ stacked_rows (k + 1) (below (full_height row) r) rows

-- how many rows of the screen the rows before one take
abbrev pub height_before : List Row → ℕ → ℕ
height_before rows k = sum_by full_height (take k rows)

-- how many rows of the screen row number k takes: without its lower margin, with it, and its cells alone
abbrev pub upper_at : List Row → ℕ → ℕ
upper_at rows k = slice_index_or (map upper_height rows) k 0

abbrev pub full_at : List Row → ℕ → ℕ
full_at rows k = slice_index_or (map full_height rows) k 0

abbrev pub cells_at : List Row → ℕ → ℕ
cells_at rows k = slice_index_or (map (λ row. row.height) rows) k 0

-- in an area of so many rows that begins with one, the cells of another one are shown whole
abbrev pub IsInView : List Row → ℕ → ℕ → ℕ → Type 0
IsInView rows height first k = height_before rows k + upper_at rows k ≤ height_before rows first + height

-- the first row, from one on, with which all up to another one fit, of which so much is to be shown; that one
-- itself if it alone doesn't
pub record IsFirstRow (rows : List Row) (height least last shown first : ℕ) : Type 0 where
  pub from : least ≤ first
  pub to : first ≤ last
  pub fits : first < last → height_before rows last + shown ≤ height_before rows first + height
  pub nearest : (k : ℕ) → least ≤ k → k < first
      → height_before rows k + height < height_before rows last + shown

-- where a table begins that began with a row, if another one is selected: there, or with the selected one if
-- that is above; if its cells aren't in view as little below as it takes to show it with its margins
pub record KeepsRowInView (rows : List Row) (height selected was begins : ℕ) : Type 0 where
  pub stays : IsInView rows height (min was selected) selected → begins ≡ min was selected
  pub moves :
      height_before rows (min was selected) + height < height_before rows selected + upper_at rows selected
      → IsFirstRow rows height (min was selected) selected (full_at rows selected) begins

-- where a table begins: without rows at the start, and without a selection where it did
abbrev pub IsRowOffset : List Row → ℕ → Option ℕ → ℕ → ℕ → Type 0
IsRowOffset [] height selected was begins = begins ≡ 0
IsRowOffset (row ∷ rows) height None was begins = begins ≡ min was (length rows)
IsRowOffset (row ∷ rows) height (Some selected) was begins =
    KeepsRowInView (row ∷ rows) height selected was begins
