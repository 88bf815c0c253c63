-- What a scroll view makes of a buffer.
use Rattle.std.specs.Prelude.{◌≡◌, ◌⊎◌, ℕ, ◌+◌, ◌-◌, ◌<◌, ◌≤◌, ◌==◌, ◌||◌, false, nat_lt, max, if◌then◌else◌, Some, None}
use Rattle.ratatui_core.specs.Layout.{Rect, Position, Size, HasPosition, EdgesFit, intersected}
use Rattle.ratatui_core.specs.Buffer.{BufferData, Cell, cell_in, width_of, styled, style_of, empty_cell}
use Rattle.ratatui_core.specs.Buffer.{ChangesEach, IsEmptied, IsShort, symbol_text, is_skipped, IsSettledBuffer, IsPlainOver}
use Rattle.ratatui_core.specs.Widgets.{ChangesWithin, OnPart}
use Rattle.widget_boxes.specs.{Titles.InTurn, Titles.DoesIf}
use Rattle.widget_scrollbar.specs.declared.scrollbar.Scrollbar.{Scrollbar}
use Rattle.widget_scrollbar.specs.declared.scrollbar.state.ScrollbarState.{ScrollbarState}
use Rattle.widget_scrollbar.specs.declared.scrollbar.ScrollbarOrientation.{ScrollbarOrientation}
use Rattle.widget_scrollbar.specs.declared.scrollbar.ScrollbarOrientation.TheVariants.{VerticalRight, HorizontalBottom}
use Rattle.widget_scrollbar.specs.Scrollbars.{IsNewScrollbar, RendersScrollbar}
use Rattle.widget_scroll_view.specs.declared.scroll_view.ScrollView.{ScrollView}
use Rattle.widget_scroll_view.specs.declared.scroll_view.ScrollbarVisibility.TheVariants.{Automatic}
use Rattle.widget_scroll_view.specs.declared.state.ScrollViewState.{ScrollViewState}
use Rattle.widget_scroll_view.specs.Places.{has_vertical, has_horizontal, view_area, vertical_bar, horizontal_bar}
use Rattle.widget_scroll_view.specs.Places.{extent, shown_offset, shown_area, content_position}

-- a view of an empty content of this size, whose bars are shown where they are needed
pub record IsNewScrollView (size : Size) (v : ScrollView) : Type 0 where
  pub content : IsEmptied (record { x = 0; y = 0; width = size.width; height = size.height }) v.content
  pub vertical : v.vertical_scrollbar_visibility ≡ Automatic
  pub horizontal : v.horizontal_scrollbar_visibility ≡ Automatic

-- a blank in the style of a cell
abbrev pub styled_blank : Cell → Cell
styled_blank c = styled (style_of c) empty_cell

-- what is shown of a content at a position of a view, from an offset on: its cell that is there; a blank in
-- that one's style if it doesn't end within the view
abbrev pub shown_cell : BufferData → Position → Rect → Position → Cell
shown_cell content offset view p =
    let c = cell_in content (content_position content offset view p) in
    if nat_lt (view.x + view.width) (p.x + width_of c) then styled_blank c else c

-- each cell of a view is the content's from an offset on, and all else is as before
abbrev pub ShowsContent : BufferData → Position → Rect → BufferData → BufferData → Type 0
ShowsContent content offset view = ChangesEach view (λ p _. shown_cell content offset view p)

-- what a bar shows of a content of this length: this many cells from an offset on, and each offset up to the
-- last one is a position
abbrev pub bar_state : ℕ → ℕ → ℕ → ScrollbarState
bar_state length room offset = record {
  content_length = length - room + 1;
  position = offset;
  viewport_content_length = room;
}

-- a bar over a row or a column: without its arrows where they would leave no track
abbrev pub with_track : Rect → Scrollbar → Scrollbar
with_track area b =
    if nat_lt 2 (max area.width area.height) then b else record b { begin_symbol = None; end_symbol = None }

-- a bar of double lines over a row or a column, with arrows if it has three cells
pub record PaintsBar (o : ScrollbarOrientation) (s : ScrollbarState) (area : Rect)
    (old new : BufferData) : Type 0 where
  pub bar : Scrollbar
  pub is_new : IsNewScrollbar o bar
  pub painted : RendersScrollbar (with_track area bar) s s area old new

-- the bars that stand, at the right and at the bottom
abbrev pub PaintsBars : ScrollView → Position → Rect → BufferData → BufferData → Type 0
PaintsBars v offset r =
    let view = view_area v r in
    let down = bar_state v.content.area.height view.height offset.y in
    let across = bar_state v.content.area.width view.width offset.x in
    InTurn (DoesIf (has_vertical v r) (PaintsBar VerticalRight down (vertical_bar r view)))
    (DoesIf (has_horizontal v r) (PaintsBar HorizontalBottom across (horizontal_bar r view)))

-- the state after a rendering in a view from an offset on: it knows the sizes
abbrev pub state_after : BufferData → Rect → Position → ScrollViewState
state_after content view offset =
    record { offset = offset; size = Some (extent content.area); page_size = Some (extent view) }

-- the same over an area, from an offset that is at most the last one
abbrev pub rendered_state : ScrollView → Rect → ScrollViewState → ScrollViewState
rendered_state v r s =
    let view = view_area v r in
    state_after v.content view (shown_offset v.content view s.offset)

-- the same over any area; without cells the state stays
abbrev pub settled_view : ScrollView → Rect → ScrollViewState → ScrollViewState
settled_view v r s = if (r.width == 0) || (r.height == 0) then s else rendered_state v r s

-- a view over an area: its bars, and what they leave shows the content from the new state's offset on. Where
-- the content is smaller, all else is as before, and so is the corner between two bars.
pub record ShowsScrollView (v : ScrollView) (s t : ScrollViewState) (r : Rect)
    (old new : BufferData) : Type 0 where
  pub state : t ≡ rendered_state v r s
  pub picture : InTurn (PaintsBars v t.offset r)
      (ShowsContent v.content t.offset (shown_area v.content (view_area v r))) old new

-- A scroll view over the part of an area that a buffer has. Nothing outside the area changes; without such a
-- part the state stays, too.
pub record RendersScrollView (v : ScrollView) (s t : ScrollViewState) (area : Rect)
    (old new : BufferData) : Type 0 where
  pub within : ChangesWithin area old new
  pub kept : ((intersected area old.area).width ≡ 0) ⊎ ((intersected area old.area).height ≡ 0) → t ≡ s
  pub shown : OnPart (ShowsScrollView v s t) area old new

-- a settled buffer over an area of which more may be painted, whatever stands beside it: the cells there are
-- plain, and none left of them reaches there
pub record IsReadyOver (r : Rect) (s : BufferData) : Type 0 where
  pub edges : EdgesFit s.area
  pub settled : IsSettledBuffer s
  pub plain : IsPlainOver r s
  pub before : (p : Position) → HasPosition s.area p → r.y ≤ p.y → p.y < r.y + r.height → p.x < r.x
      → is_skipped (cell_in s p) ≡ false → p.x + width_of (cell_in s p) ≤ r.x

-- each symbol is short that a buffer's cells show of a content from an offset on
abbrev pub HasShortCells : BufferData → Position → Rect → BufferData → Type 0
HasShortCells content offset view s =
    (p : Position) → HasPosition s.area p → HasPosition (shown_area content view) p
    → IsShort (symbol_text (shown_cell content offset (shown_area content view) p).symbol)

-- It takes no memory if no symbol does that it shows of the content. Its bars take none.
abbrev pub IsShortScrollView : ScrollView → ScrollViewState → Rect → BufferData → Type 0
IsShortScrollView v s area old =
    let view = view_area v (intersected area old.area) in
    HasShortCells v.content (shown_offset v.content view s.offset) view old
