-- A box: which symbols stand where, and what is inside.
use Rattle.std.specs.Prelude.{◌≡◌, ℕ, Bool, true, false, ◌&&◌, ◌||◌, ◌==◌, ◌+◌, ◌-◌, ◌≤◌, ◌<◌}
use Rattle.std.specs.Prelude.{min, Option, List, [], ◌∷◌, ◌++◌, if◌then◌else◌, unwrap_or, map}
use Rattle.std.specs.Prelude.{filter, reverse, All, ⊤}
use Rattle.std.specs.{List.list_any, Int.RustNames.bit_and}
use Rattle.ratatui_core.specs.Layout.{Rect, Position, HasPosition, has_position, right_edge, bottom_edge}
use Rattle.ratatui_core.specs.Layout.{intersected}
use Rattle.ratatui_core.specs.Symbols.{border_texts, plain_border}
use Rattle.ratatui_core.specs.{Style.Style, Style.new_style, Text.LineData}
use Rattle.ratatui_core.specs.{declared.layout.HorizontalAlignment.HorizontalAlignment}
use Rattle.ratatui_core.specs.declared.layout.HorizontalAlignment.TheVariants.{Left, Center, Right}
use Rattle.ratatui_core.specs.{Widgets.ChangesWithin, Widgets.OnPart}
use Rattle.ratatui_core.specs.{declared.symbols.merge.MergeStrategy.MergeStrategy}
use Rattle.ratatui_core.specs.Buffer.{BufferData, Cell, MakesEach, place_at, position_of, cell_in, styled}
use Rattle.ratatui_core.specs.Buffer.{with_symbol, joined, symbol_text, text_width, IsShort}
use Rattle.ratatui_core.specs.declared.symbols.merge.MergeStrategy.TheVariants.{Replace, Exact, Fuzzy}
use Rattle.widget_boxes.specs.{declared.borders.Borders.Borders, declared.block.Block.Block}
use Rattle.widget_boxes.specs.{declared.title.Title.Title}
use Rattle.widget_boxes.specs.declared.title.TitlePosition.{TitlePosition}
use Rattle.widget_boxes.specs.{declared.title.TitlePosition.TheVariants.Top}
use Rattle.widget_boxes.specs.{declared.title.TitlePosition.TheVariants.Bottom, Borders.sides_of}
use Rattle.widget_boxes.specs.Titles.{PlacedTitle, RendersTitles, is_same_alignment, from_left, from_centre}
use Rattle.widget_boxes.specs.{Titles.from_right, Titles.titles_width, Lines.IsShortTitle}
use Rattle.ratatui_core.specs.Text.{TakesOneColumn, EachLineGrapheme}

-- a box with these sides and plain lines, without titles, styles and padding
pub record IsNewBlock (sides : ℕ) (b : Block) : Type 0 where
  pub untitled : b.titles.items ≡ []
  pub titles_unstyled : b.titles_style ≡ new_style
  pub titles_left : b.titles_alignment ≡ Left
  pub titles_top : b.titles_position ≡ Top
  pub borders : sides_of b.borders ≡ sides
  pub lines : border_texts b.border_set ≡ plain_border
  pub borders_unstyled : b.border_style ≡ new_style
  pub unstyled : b.style ≡ new_style
  pub unpadded : b.padding ≡ record { left = 0; right = 0; top = 0; bottom = 0 }
  pub replaces : b.merge_borders ≡ Replace

-- a box with a title after its others
pub record AddsTitle (position : Option TitlePosition) (line : LineData) (old new : Block) : Type 0 where
  pub titles : new.titles.items ≡ old.titles.items ++ record { position = position; line = line } ∷ []
  pub rest : new ≡ record old { titles = new.titles }

-- 1 for true
abbrev pub one_if : Bool → ℕ
one_if b = if b then 1 else 0

-- whether all of some sides are drawn
abbrev pub has_side : Block → Borders → Bool
has_side b sides = bit_and (sides_of b.borders) (sides_of sides) == sides_of sides

abbrev pub top : Borders
top = record { 0 = 1 }

abbrev pub right : Borders
right = record { 0 = 2 }

abbrev pub bottom : Borders
bottom = record { 0 = 4 }

abbrev pub left : Borders
left = record { 0 = 8 }

abbrev pub is_same_position : TitlePosition → TitlePosition → Bool
is_same_position Top Top = true
is_same_position Top Bottom = false
is_same_position Bottom Top = false
is_same_position Bottom Bottom = true

-- whether a title stands in a row
abbrev pub is_in_row : TitlePosition → TitlePosition → Title → Bool
is_in_row own position title = is_same_position (unwrap_or title.position own) position

abbrev pub has_title : Block → TitlePosition → Bool
has_title b position = list_any (is_in_row b.titles_position position) b.titles.items

-- whether the first row, or the last one, is no part of the inside
abbrev pub has_row : Block → Borders → TitlePosition → Bool
has_row b side position = has_side b side || has_title b position

-- what is inside: the area without the columns and rows of borders and titles, and without the padding
abbrev pub inner_of : Block → Rect → Rect
inner_of b r =
    let l = one_if (has_side b left) in let t = one_if (has_row b top Top) in
    record {
      x = min (min (min (r.x + l) 65535) (right_edge r) + b.padding.left) 65535;
      y = min (min (min (r.y + t) 65535) (bottom_edge r) + b.padding.top) 65535;
      width = r.width - l - one_if (has_side b right) - min (b.padding.left + b.padding.right) 65535;
      height = r.height - t - one_if (has_row b bottom Bottom) - min (b.padding.top + b.padding.bottom) 65535;
    }

-- how many columns the box takes left and right of what is inside
abbrev pub columns_around : Block → ℕ
columns_around b = one_if (has_side b left) + one_if (has_side b right)
    + min (b.padding.left + b.padding.right) 65535

-- how many rows the box takes above and below what is inside
abbrev pub rows_around : Block → ℕ
rows_around b = one_if (has_row b top Top) + one_if (has_row b bottom Bottom) + min
    (b.padding.top + b.padding.bottom) 65535

-- a cell with a symbol drawn over it by a strategy, in a style
abbrev pub drawn : MergeStrategy → Style → List ℕ → Cell → Cell
drawn strategy style symbol c = styled style (with_symbol (joined strategy c.symbol symbol) c)

-- whether borders are joined with what stands there
abbrev pub joins : MergeStrategy → Bool
joins Replace = false
joins Exact = true
joins Fuzzy = true

-- how far a side begins after this one: if borders are joined, a corner belongs to no side
abbrev pub inset : Block → Borders → ℕ
inset b side = one_if (joins b.merge_borders && has_side b side)

-- an area with columns and rows
pub record IsBoxArea (r : Rect) : Type 0 where
  pub columns : 0 < r.width
  pub rows : 0 < r.height
  pub across : r.x + r.width ≤ 65535
  pub down : r.y + r.height ≤ 65535

-- the last column and the last row
abbrev pub last_column : Rect → ℕ
last_column r = r.x + (r.width - 1)

abbrev pub last_row : Rect → ℕ
last_row r = r.y + (r.height - 1)

-- the sides
abbrev pub left_side : Block → Rect → Rect
left_side b r = record {
  x = r.x;
  y = r.y + inset b top;
  width = 1;
  height = r.height - inset b top - inset b bottom;
}

abbrev pub right_side : Block → Rect → Rect
right_side b r = record (left_side b r) { x = last_column r }

abbrev pub top_side : Block → Rect → Rect
top_side b r = record {
  x = r.x + inset b left;
  y = r.y;
  width = r.width - inset b left - inset b right;
  height = 1;
}

abbrev pub bottom_side : Block → Rect → Rect
bottom_side b r = record (top_side b r) { y = last_row r }

-- a symbol over each place of a rectangle, if it is drawn
pub record Stroke : Type 0 where
  pub is_drawn : Bool
  pub part : Rect
  pub symbol : List ℕ

abbrev pub stroke : Bool → Rect → List ℕ → Stroke
stroke is_drawn part symbol = record { is_drawn = is_drawn; part = part; symbol = symbol }

abbrev pub side_strokes : Block → Rect → List Stroke
side_strokes b r =
    stroke (has_side b left) (left_side b r) b.border_set.vertical_left.now ∷ (stroke (has_side b top)
    (top_side b r) b.border_set.horizontal_top.now
    ∷ (stroke (has_side b right) (right_side b r) b.border_set.vertical_right.now ∷
    (stroke (has_side b bottom) (bottom_side b r) b.border_set.horizontal_bottom.now ∷ [])))

abbrev pub corner_strokes : Block → Rect → List Stroke
corner_strokes b r =
    stroke (has_side b right && has_side b bottom)
    (place_at (position_of (last_column r, last_row r))) b.border_set.bottom_right.now
    ∷ (stroke (has_side b right && has_side b top)
    (place_at (position_of (last_column r, r.y))) b.border_set.top_right.now
    ∷ (stroke (has_side b left && has_side b bottom)
    (place_at (position_of (r.x, last_row r))) b.border_set.bottom_left.now
    ∷ (stroke (has_side b left && has_side b top)
    (place_at (position_of (r.x, r.y))) b.border_set.top_left.now ∷ [])))

-- the stroke is drawn over the position
abbrev pub strikes : Stroke → Position → Bool
strikes s p = s.is_drawn && has_position s.part p

-- a cell at a position, with the strokes drawn over it in order
abbrev pub stroked : Block → List Stroke → Position → Cell → Cell
stroked b [] p c = c
stroked b (s ∷ ss) p c = stroked b ss p
    (if strikes s p then drawn b.merge_borders b.border_style s.symbol c else c)

-- no symbol that comes of it takes memory
abbrev pub IsShortUnder : Block → List Stroke → Position → Cell → Type 0
IsShortUnder b [] p c = ⊤
IsShortUnder b (s ∷ ss) p c =
    (strikes s p ≡ true → IsShort (joined b.merge_borders c.symbol s.symbol))
    × IsShortUnder b ss p (if strikes s p then drawn b.merge_borders b.border_style s.symbol c else c)

-- all strokes of a box: the sides, and then the corners
abbrev pub strokes : Block → Rect → List Stroke
strokes b r = side_strokes b r ++ corner_strokes b r

-- the row in which titles stand
abbrev pub title_row : Rect → TitlePosition → ℕ
title_row r Top = r.y
title_row r Bottom = last_row r

-- where the titles of a row stand: between the borders
abbrev pub titles_area : Block → Rect → TitlePosition → Rect
titles_area b r position =
    record {
      x = r.x + one_if (has_side b left);
      y = title_row r position;
      width = r.width - one_if (has_side b left) - one_if (has_side b right);
      height = 1;
    }

-- no title stands at the position
pub record IsOffTitles (b : Block) (r : Rect) (p : Position) : Type 0 where
  pub first : has_title b Top ≡ true → ¬ (HasPosition (titles_area b r Top) p)
  pub last : has_title b Bottom ≡ true → ¬ (HasPosition (titles_area b r Bottom) p)

-- a cell at a position of a box over a rectangle: in the style of the box, and the strokes over it; beside
-- the box as before
abbrev pub box_cell : Block → Rect → Position → Cell → Cell
box_cell b r p c = if has_position r p then stroked b (strokes b r) p (styled b.style c) else c

-- whether a title stands in a row and is aligned so; if it doesn't say so itself it is as the box says
abbrev pub is_placed : Block → TitlePosition → HorizontalAlignment → Title → Bool
is_placed b position alignment title =
    is_in_row b.titles_position position title && is_same_alignment
    (unwrap_or title.line.alignment b.titles_alignment) alignment

-- the lines of those of some titles that stand in a row and are aligned so
abbrev pub lines_placed : Block → TitlePosition → HorizontalAlignment → List Title → List LineData
lines_placed b position alignment titles = map (λ title. title.line)
    (filter (is_placed b position alignment) titles)

-- the titles of a row: those at the left, those in the centre over them, and over both those at the right, of
-- which the last one stands at the right end
abbrev pub row_titles : Block → Rect → TitlePosition → List PlacedTitle
row_titles b row position =
    from_left row (lines_placed b position Left b.titles.items)
    ++ (from_centre row (lines_placed b position Center b.titles.items) ++ from_right row
    (lines_placed b position Right (reverse b.titles.items)))

-- all titles of a box over a rectangle
abbrev pub placed_titles : Block → Rect → List PlacedTitle
placed_titles b r = row_titles b (titles_area b r Top) Top ++ row_titles b (titles_area b r Bottom) Bottom

-- a box with its titles over a rectangle: each cell with the style and the strokes over it, and then the
-- titles
pub record RendersTitled (b : Block) (r : Rect) (old new : BufferData) : Type 0 where
  pub framed : BufferData
  pub frame : MakesEach (box_cell b r) old framed
  pub titles : RendersTitles b.titles_style (placed_titles b r) framed new

-- A box over the part of an area that the buffer has, cell by cell, and its titles. Only cells in which
-- titles stand may differ from the box's own; a row without titles has none.
pub record RendersBlock (b : Block) (area : Rect) (old new : BufferData) : Type 0 where
  pub same_area : new.area ≡ old.area
  pub same_room : new.room ≡ old.room
  pub at : (p : Position) → HasPosition old.area p → IsOffTitles b (intersected area old.area) p
      → cell_in new p ≡ box_cell b (intersected area old.area) p (cell_in old p)
  pub within : ChangesWithin area old new
  pub titled : OnPart (RendersTitled b) area old new

abbrev pub HasShortTitles : Block → Type 0
HasShortTitles b = All (λ title. IsShortTitle title.line) b.titles.items

-- how many columns the titles in the centre of a row take
abbrev pub centre_width : Block → TitlePosition → ℕ
centre_width b position = titles_width (lines_placed b position Center b.titles.items)

-- titles over a rectangle that take no memory: none of those in the centre of a row is cut
pub record AreShortTitles (b : Block) (r : Rect) : Type 0 where
  pub titles : HasShortTitles b
  pub uncut : (position : TitlePosition) → centre_width b position ≤ (titles_area b r position).width

-- a box takes no memory if no symbol does that comes of it, and no title
pub record IsShortBlock (b : Block) (area : Rect) (s : BufferData) : Type 0 where
  pub titles : AreShortTitles b (intersected area s.area)
  pub short : (p : Position) → HasPosition s.area p
      → IsShortUnder b (strokes b (intersected area s.area)) p
      (if has_position (intersected area s.area) p then styled b.style (cell_in s p) else cell_in s p)

-- titles that take no memory in a row of any width: none of any columns stands in the centre
pub record AreShortAnywhere (b : Block) : Type 0 where
  pub titles : HasShortTitles b
  pub uncentred : (position : TitlePosition) → centre_width b position ≡ 0

-- each symbol of the border takes no memory
abbrev pub HasShortSymbols : Block → Type 0
HasShortSymbols b = All IsShort (border_texts b.border_set)

-- no cell's symbol takes memory
abbrev pub AreShortCells : BufferData → Type 0
AreShortCells s = (p : Position) → HasPosition s.area p → IsShort (symbol_text (cell_in s p).symbol)

-- a box whose symbols, and whose titles' graphemes, take at most one column each; it may have no titles
pub record IsNarrowBox (b : Block) : Type 0 where
  pub titles : All (λ title. EachLineGrapheme TakesOneColumn title.line) b.titles.items
  pub symbols : All (λ symbol. text_width symbol ≤ 1) (border_texts b.border_set)
