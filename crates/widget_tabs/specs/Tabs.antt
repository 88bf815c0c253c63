-- Tabs: where each part of their row stands, and what they make of a buffer.
use Rattle.std.specs.Prelude.{◌≡◌, ℕ, Bool, false, ◌+◌, ◌-◌, ◌==◌, zero, suc, min, List, [], ◌∷◌}
use Rattle.std.specs.Prelude.{length, codes, encode_utf8_all, Option, Some, None, if◌then◌else◌, nat_lt}
use Rattle.std.specs.Prelude.{unwrap_or, All, IfSome}
use Rattle.ratatui_core.specs.Layout.{Rect}
use Rattle.ratatui_core.specs.Style.{Style, new_style, with_modifier, modifier_of}
use Rattle.ratatui_core.specs.Text.{SpanData, LineData, unstyled, EachGrapheme, EachSpanGrapheme}
use Rattle.ratatui_core.specs.Text.{TakesOneColumn}
use Rattle.ratatui_core.specs.Buffer.{BufferData, text_pieces, line_pieces, columns}
use Rattle.rtui_drawing.specs.declared.cut.Cut.TheVariants.{First, After, Rows}
use Rattle.rtui_drawing.specs.Drawings.{Drawing, nothing, over, ◌before◌, draw_if, put_style, put_pieces}
use Rattle.rtui_inside.specs.Inside.{DrawsInside, LeavesInside, IsShortInside}
use Rattle.widget_tabs.specs.declared.tabs.Tabs.{Tabs as TabsData}

-- the style in which foreground and background are exchanged
abbrev pub reversed_style : Style
reversed_style = with_modifier (modifier_of 64) new_style

-- which of so many titles is selected, if this one was: none without titles, and else one of them
abbrev pub selected_of : ℕ → Option ℕ → Option ℕ
selected_of zero was = None
selected_of (suc last) was = Some (min (unwrap_or was 0) last)

-- tabs with these titles, the first one selected and reversed, a blank on each side of each title and a line
-- between each two
pub record IsNewTabs (titles : List LineData) (t : TabsData) : Type 0 where
  pub titles_are : t.titles.items ≡ titles
  pub no_box : t.block ≡ None
  pub selected : t.selected ≡ selected_of (length titles) None
  pub unstyled_tabs : t.style ≡ new_style
  pub reversed : t.highlight_style ≡ reversed_style
  pub divider : t.divider ≡ unstyled (encode_utf8_all (codes "│"))
  pub blank_left : t.padding_left ≡ None
  pub blank_right : t.padding_right ≡ None

-- a part of the row: a text, a line that may be highlighted, or one part beside another
pub data TabPart : Type 0 where
  no_part : TabPart
  span_part : SpanData → TabPart
  line_part : LineData → Bool → TabPart
  ◌beside◌ : TabPart → TabPart → TabPart

infixr 6 ◌beside◌
-- how many of so many columns a part takes
abbrev pub columns_of_part : TabPart → ℕ → ℕ
columns_of_part no_part room = 0
columns_of_part (span_part span) room = columns (text_pieces room span.style span.content)
columns_of_part (line_part line is_lit) room = columns (line_pieces room line.style line.spans)
columns_of_part (a beside b) room = columns_of_part a room + columns_of_part b (room - columns_of_part a room)

-- what is drawn of a part in a row of so many columns
abbrev pub drawing_of_part : Style → TabPart → ℕ → Drawing
drawing_of_part highlight no_part room = nothing
drawing_of_part highlight (span_part span) room = put_pieces (text_pieces room span.style span.content)
drawing_of_part highlight (line_part line is_lit) room =
    let ps = line_pieces room line.style line.spans in
    put_pieces ps before over (First (columns ps)) (draw_if is_lit (put_style highlight))
drawing_of_part highlight (a beside b) room =
    let n = columns_of_part a room in
    drawing_of_part highlight a room before over (After n) (drawing_of_part highlight b (room - n))

-- a padding: a blank, if it is no other
abbrev pub padding_part : Option LineData → TabPart
padding_part None = span_part (unstyled (codes " "))
padding_part (Some line) = line_part line false

-- the number is the selected one
abbrev pub is_tab_selected : Option ℕ → ℕ → Bool
is_tab_selected None k = false
is_tab_selected (Some selected) k = selected == k

-- the divider before each title but the first
abbrev pub divider_part : TabsData → ℕ → TabPart
divider_part t k = if k == 0 then no_part else span_part t.divider

-- a title between its paddings, after the divider if it isn't the first one
abbrev pub tab_part : TabsData → ℕ → LineData → TabPart
tab_part t k line =
    divider_part t k beside (padding_part t.padding_left beside (line_part line (is_tab_selected t.selected k)
    beside padding_part t.padding_right))

-- the titles from number k on, in a row of so many columns, as far as it has some
abbrev pub tabs_from : TabsData → ℕ → ℕ → List LineData → Drawing
tabs_from t room k [] = nothing
tabs_from t room k (line ∷ lines) =
    let n = columns_of_part (tab_part t k line) room in
    draw_if (nat_lt 0 room) (drawing_of_part t.highlight_style (tab_part t k line) room
    before over (After n) (tabs_from t (room - n) (k + 1) lines))

-- all that tabs draw in an area: in its first row
abbrev pub tabs_drawing : TabsData → Rect → Drawing
tabs_drawing t r = over (Rows 0 1) (tabs_from t r.width 0 t.titles.items)

-- Tabs over the part of an area that a buffer has: their style, their box, and in the first row inside the
-- titles. Nothing outside the area changes.
abbrev pub RendersTabs : TabsData → Rect → BufferData → BufferData → Type 0
RendersTabs t = DrawsInside t.style t.block (tabs_drawing t)

-- what a refusal leaves: if the box takes no memory, it stands, and all before one of the texts
abbrev pub LeavesTabs : TabsData → Rect → BufferData → BufferData → Type 0
LeavesTabs t = LeavesInside t.style t.block (tabs_drawing t)

-- tabs take no memory if their box takes none and all that shows of them is short
abbrev pub IsShortTabs : TabsData → Rect → BufferData → Type 0
IsShortTabs t = IsShortInside t.block (tabs_drawing t)

-- each grapheme of a line that is painted whole takes one column
abbrev pub IsNarrowTabLine : LineData → Type 0
IsNarrowTabLine line = EachSpanGrapheme TakesOneColumn line.spans

-- each grapheme that tabs show inside their box takes one column
pub record HasNarrowTabs (t : TabsData) : Type 0 where
  pub titles : All IsNarrowTabLine t.titles.items
  pub divider : EachGrapheme TakesOneColumn t.divider.content
  pub left : IfSome t.padding_left IsNarrowTabLine
  pub right : IfSome t.padding_right IsNarrowTabLine
