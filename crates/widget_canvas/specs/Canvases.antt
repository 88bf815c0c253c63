-- A canvas: what its dots and labels make of a buffer.
use Rattle.std.specs.Prelude.{◌≡◌, ℕ, ◌+◌, ◌-◌, ◌*◌, ◌/◌, ◌%◌, ◌==◌, List, [], ◌∷◌, pos}
use Rattle.std.specs.Prelude.{None, slice_index, slice_index_or, encode_utf8, ◌<◌, ◌≤◌, if◌then◌else◌, ℤ, int_lt}
use Rattle.ratatui_core.specs.Layout.{Rect, Position}
use Rattle.ratatui_core.specs.Text.{LineData}
use Rattle.ratatui_core.specs.Style.{Reset, new_style, with_bg}
use Rattle.ratatui_core.specs.Buffer.{BufferData, Cell, with_symbol, ChangesEach, IsStyled, text_width}
use Rattle.ratatui_core.specs.Widgets.{RendersLine}
use Rattle.ratatui_core.specs.declared.symbols.Marker.{Marker}
use Rattle.ratatui_core.specs.declared.symbols.Marker.TheVariants.{Braille, HalfBlock, Bar, Dot, Custom}
use Rattle.ratatui_core.specs.declared.symbols.Marker.TheVariants.{Block, Quadrant, Sextant, Octant}
use Rattle.widget_boxes.specs.Titles.{InTurn, DoesIf, title_width, first_columns}
use Rattle.widget_boxes.specs.Framed.{RendersInFrame}
use Rattle.rtui_dots.specs.declared.{scale.Scale.Scale, painter.DotCell.DotCell}
use Rattle.widget_canvas.specs.declared.{label.Label.Label, canvas.Canvas.Canvas}
use Rattle.widget_canvas.specs.declared.shown.TheConstants.{QUADRANTS, SEXTANTS, OCTANTS}
use Rattle.rtui_dots.specs.Grids.{Dot as GridDot, lies_within, column_of_cell, row_of_cell, no_dots, empty_grid}
use Rattle.rtui_dots.specs.Grids.{has_one_color, with_dots}
use Rattle.rtui_dots.specs.Layers.{layers_of}

-- the character of a cell's halves: the one that is set, and of two a whole block if they have one colour, or
-- else the upper one
abbrev pub half_mark : DotCell → ℕ
half_mark d =
    if d.pattern == 1 then 0x2580
    else if d.pattern == 2 then 0x2584
    else if has_one_color d then 0x2588
    else 0x2580

-- the character of a cell's dots; those of quadrants, sextants and octants stand in tables by their pattern
abbrev pub dot_mark : Marker → DotCell → ℕ
dot_mark Braille d = 0x2800 + d.pattern
dot_mark HalfBlock d = half_mark d
dot_mark Quadrant d = slice_index QUADRANTS (d.pattern % 16)
dot_mark Sextant d = slice_index SEXTANTS (d.pattern % 64)
dot_mark Octant d = slice_index OCTANTS d.pattern
dot_mark Dot d = 0x2022
dot_mark Bar d = 0x2584
dot_mark (Custom c) d = c
dot_mark Block d = 0x2588

-- a pattern of two rows of two dots, with each row twice
abbrev pub rows_doubled : ℕ → ℕ
rows_doubled n = n % 4 * 5 + n / 4 * 80

-- a cell in the colour of its dots; of half blocks the upper one is before the lower one's colour, if both
-- are set
abbrev pub in_color : Marker → DotCell → Cell → Cell
in_color HalfBlock d c =
    if d.pattern == 2 then record c { fg = d.lower }
    else if d.pattern == 1 then record c { fg = d.color }
    else record c { fg = d.color; bg = d.lower }
in_color m d c = record c { fg = d.color }

-- a cell under its dots, if it has any
abbrev pub under_dots : Marker → DotCell → Cell → Cell
under_dots m d c =
    if d.pattern == 0 then c else in_color m d (with_symbol (encode_utf8 (dot_mark m d)) c)

-- an area's cell under the dots of a grid
abbrev pub shown_at : Scale → Rect → List DotCell → Position → Cell → Cell
shown_at s r cells p = under_dots s.marker
    (slice_index_or cells ((p.y - r.y) * s.columns + (p.x - r.x)) no_dots)

-- dots over an area
abbrev pub ShowsDots : Scale → Rect → List GridDot → List DotCell → BufferData → BufferData → Type 0
ShowsDots s r dots cells = ChangesEach r (shown_at s r (with_dots s dots cells))

-- layers of dots over an area, each over those before
abbrev pub ShowsLayers : Scale → Rect → List (List GridDot) → BufferData → BufferData → Type 0
ShowsLayers s r [] old new = new ≡ old
ShowsLayers s r (layer ∷ layers) old new = InTurn (ShowsDots s r layer (empty_grid s))
    (ShowsLayers s r layers) old new

-- a row from a cell on, and so many columns of it as a line has
abbrev pub label_from : Rect → ℕ → ℕ → LineData → Rect
label_from r column row line =
    first_columns (title_width line) (record {
      x = r.x + column;
      y = r.y + row;
      width = r.width - column;
      height = 1;
    })

-- the column and the row among the cells where a label begins; the first ones if the bounds have no extent
abbrev pub label_column : Scale → ℤ → ℕ
label_column s x = if int_lt s.left s.right then column_of_cell s x else 0

abbrev pub label_row : Scale → ℤ → ℕ
label_row s y = if int_lt s.bottom s.top then row_of_cell s y else 0

-- where a label stands
abbrev pub label_area : Scale → Rect → Label → Rect
label_area s r l = label_from r (label_column s l.x) (label_row s l.y) l.line

-- a label at its point, if that lies within the bounds or on them
abbrev pub RendersLabel : Scale → Rect → Label → BufferData → BufferData → Type 0
RendersLabel s r l = DoesIf (lies_within s l.x l.y) (RendersLine l.line (label_area s r l))

abbrev pub RendersLabels : Scale → Rect → List Label → BufferData → BufferData → Type 0
RendersLabels s r [] old new = new ≡ old
RendersLabels s r (l ∷ ls) old new = InTurn (RendersLabel s r l) (RendersLabels s r ls) old new

-- the bounds of a canvas over the cells of an area
abbrev pub scale_of : Canvas → Rect → Scale
scale_of c r = record {
  left = c.left;
  right = c.right;
  bottom = c.bottom;
  top = c.top;
  columns = r.width;
  rows = r.height;
  marker = c.marker;
}

-- the background of a canvas, its layers, and its labels over them
pub record ShowsCanvas (c : Canvas) (r : Rect) (old new : BufferData) : Type 0 where
  pub laid : BufferData
  pub drawn : BufferData
  pub background : IsStyled r (with_bg c.background_color new_style) old laid
  pub layers : ShowsLayers (scale_of c r) r (layers_of (scale_of c r) c.drawings.now) laid drawn
  pub labels : RendersLabels (scale_of c r) r c.labels.now drawn new

-- A canvas over the part of an area that a buffer has: its box, and inside its background, dots and labels.
-- Nothing outside the area changes.
abbrev pub RendersCanvas : Canvas → Rect → BufferData → BufferData → Type 0
RendersCanvas c = RendersInFrame new_style c.block (ShowsCanvas c)

-- a canvas of nothing: no box, no points between its bounds, and Braille dots
pub record IsNewCanvas (c : Canvas) : Type 0 where
  pub no_box : c.block ≡ None
  pub left : c.left ≡ pos 0
  pub right : c.right ≡ pos 0
  pub bottom : c.bottom ≡ pos 0
  pub top : c.top ≡ pos 0
  pub no_drawings : c.drawings.now ≡ []
  pub no_labels : c.labels.now ≡ []
  pub no_background : c.background_color ≡ Reset
  pub braille : c.marker ≡ Braille

-- each character of a marker's dots takes at most one column
abbrev pub HasNarrowDots : Marker → Type 0
HasNarrowDots m = (d : DotCell) → d.pattern < 256 → text_width (encode_utf8 (dot_mark m d)) ≤ 1
