-- What a list makes of a buffer and of its state.
use Rattle.std.specs.Prelude.{◌≡◌, ℕ, zero, suc, Bool, true, false, ◌+◌, ◌-◌, ◌<◌, ◌==◌, ◌&&◌, ◌||◌, ⊤, nat_lt, min}
use Rattle.std.specs.Prelude.{List, [], ◌∷◌, length, take, drop, codes, Option, Some, None, IfSome, is_some}
use Rattle.std.specs.Prelude.{if◌then◌else◌, All}
use Rattle.ratatui_core.specs.{Layout.Rect, Style.new_style, Style.patch}
use Rattle.ratatui_core.specs.Text.{LineData, raw_text, line_width, TakesOneColumn, EachLineGrapheme}
use Rattle.ratatui_core.specs.Text.{EachTextGrapheme}
use Rattle.ratatui_core.specs.{Buffer.BufferData, Buffer.Cell, Buffer.with_symbol, Widgets.RendersShortText}
use Rattle.widget_boxes.specs.{Framed.RendersStateInFrame, Framed.IsShortFrame, Lines.IsShortTitle}
use Rattle.widget_boxes.specs.{Titles.InTurn, Titles.DoesIf, Highlights.IsHighlighted}
use Rattle.widget_boxes.specs.Apart.{IsShowable, IsShowableText}
use Rattle.rtui_drawing.specs.Cuts.{cut_from}
use Rattle.rtui_drawing.specs.declared.cut.Cut.{Cut}
use Rattle.rtui_drawing.specs.declared.cut.Cut.TheVariants.{First, After, Rows}
use Rattle.rtui_drawing.specs.Drawings.{Drawing, nothing, over, ◌before◌, draw_if, put_style, put_line, put_text}
use Rattle.rtui_drawing.specs.Drawings.{put_change, DrawsAll}
use Rattle.widget_list.specs.{declared.list.List.List as ListData, declared.list.ListDirection.ListDirection}
use Rattle.widget_list.specs.declared.list.ListDirection.TheVariants.{TopToBottom, BottomToTop}
use Rattle.widget_list.specs.declared.list.HighlightSpacing.{HighlightSpacing}
use Rattle.widget_list.specs.declared.list.HighlightSpacing.TheVariants.{Always, WhenSelected, Never}
use Rattle.widget_list.specs.{declared.item.ListItem.ListItem, declared.state.ListState.ListState}
use Rattle.widget_list.specs.Windows.{item_rows, IsCount, IsOffset, last_item}

-- an item of a plain text, without a style of its own
abbrev pub raw_item : List ℕ → ListItem
raw_item text = record { content = raw_text text; style = new_style }

-- a list of items, without box, styles and highlight symbol
pub record IsNewList (items : List ListItem) (l : ListData) : Type 0 where
  pub items_are : l.items.items ≡ items
  pub no_box : l.block ≡ None
  pub unstyled : l.style ≡ new_style
  pub from_above : l.direction ≡ TopToBottom
  pub unstyled_highlight : l.highlight_style ≡ new_style
  pub no_symbol : l.highlight_symbol ≡ None
  pub once : l.repeat_highlight_symbol ≡ false
  pub spaced : l.highlight_spacing ≡ WhenSelected
  pub unpadded : l.scroll_padding ≡ 0

-- whether the highlight symbol's columns stay free
abbrev pub has_mark_columns : HighlightSpacing → Bool → Bool
has_mark_columns Always is_selected = true
has_mark_columns WhenSelected is_selected = is_selected
has_mark_columns Never is_selected = false

-- how many columns a symbol has, and how many of a part it takes
abbrev pub columns_of_mark : Option LineData → ℕ
columns_of_mark None = 0
columns_of_mark (Some line) = line_width line.spans

abbrev pub mark_width : Option LineData → Rect → ℕ
mark_width symbol r = min (columns_of_mark symbol) r.width

-- how many stay free for it
abbrev pub columns_kept_free : ListData → Bool → Rect → ℕ
columns_kept_free l is_selected r =
    if has_mark_columns l.highlight_spacing is_selected then mark_width l.highlight_symbol r else 0

-- where an item stands that takes so many rows, after others that take so many
abbrev pub item_cut : ListDirection → Rect → ℕ → ℕ → Cut
item_cut TopToBottom r used rows = Rows used rows
item_cut BottomToTop r used rows = Rows (r.height - used - rows) rows

-- a cell with a blank, in the style that it has
abbrev pub left_blank : Cell → Cell
left_blank = with_symbol (codes " ")

-- in a symbol's columns of a row the symbol, in its own styles over what stands there, or blanks
abbrev pub symbol_or_blanks : Option LineData → Bool → Drawing
symbol_or_blanks symbol false = put_change (λ _. left_blank) (λ _ _. ⊤)
symbol_or_blanks None true = nothing
symbol_or_blanks (Some line) true = put_line line

-- the symbol stands in a row of an item: in the first one of the selected one, or in each
abbrev pub is_marked : ListData → Bool → ℕ → Bool
is_marked l is_selected j = is_selected && ((j == 0) || l.repeat_highlight_symbol)

-- the symbol or blanks in so many rows of an item, from one on
abbrev pub marks_drawing : ListData → Bool → ℕ → ℕ → Drawing
marks_drawing l is_selected j zero = nothing
marks_drawing l is_selected j (suc more) =
    over (Rows j 1) (symbol_or_blanks l.highlight_symbol (is_marked l is_selected j))
    before marks_drawing l is_selected (j + 1) more

-- the symbol or blanks over an item of so many rows, if columns stay free for it
abbrev pub marks_over : ListData → Bool → ℕ → ℕ → Drawing
marks_over l is_selected n rows =
    draw_if (nat_lt 0 n) (over (First n) (marks_drawing l is_selected 0 rows))

-- an item beside so many columns of the symbol: its style over the list's, and its text
abbrev pub item_drawing : ListData → ℕ → ListItem → Drawing
item_drawing l n i = put_style (patch l.style i.style) before over (After n) (put_text i.content)

-- an item over a part: its text, over it the highlight if it is selected, and the symbol in its columns
pub record ShowsItem (l : ListData) (is_selected : Bool) (n : ℕ) (i : ListItem) (r : Rect)
    (old new : BufferData) : Type 0 where
  pub texted : BufferData
  pub lit : BufferData
  pub text : DrawsAll (item_drawing l n i) r old texted
  pub highlight : DoesIf is_selected (IsHighlighted r l.highlight_style) texted lit
  pub marks : DrawsAll (marks_over l is_selected n (item_rows i)) r lit new

-- the number is the one that is selected
abbrev pub is_selected_at : Option ℕ → ℕ → Bool
is_selected_at None k = false
is_selected_at (Some selected) k = selected == k

-- items one after the other, the first of them of this number, after others that take so many rows
abbrev pub ShowsItems : ListData → Option ℕ → Rect → ℕ → ℕ → List ListItem → BufferData → BufferData → Type 0
ShowsItems l selected r k used [] old new = new ≡ old
ShowsItems l selected r k used (i ∷ items) old new = InTurn
    (ShowsItem l (is_selected_at selected k) (columns_kept_free l (is_some selected) r) i
    (cut_from (item_cut l.direction r used (item_rows i)) r))
    (ShowsItems l selected r (k + 1) (used + item_rows i) items) old new

-- a number, but at most another one
abbrev pub at_most : ℕ → Option ℕ → Option ℕ
at_most last None = None
at_most last (Some n) = Some (min n last)

-- an item's text takes no memory, in however many columns and rows
abbrev pub IsShortItem : ListItem → Type 0
IsShortItem i = (area : Rect) (s : BufferData) → RendersShortText i.content area s

-- nothing that a list shows inside its box takes memory
pub record HasShortItems (l : ListData) : Type 0 where
  pub symbol : IfSome l.highlight_symbol IsShortTitle
  pub items : All IsShortItem l.items.items

-- a list takes no memory if its box takes none and all that it shows is short
pub record IsShortList (l : ListData) (s : BufferData) : Type 0 where
  pub frame : IsShortFrame l.block s
  pub shown : HasShortItems l

-- each grapheme that a list shows inside its box takes one column
pub record HasNarrowItems (l : ListData) : Type 0 where
  pub symbol : IfSome l.highlight_symbol (EachLineGrapheme TakesOneColumn)
  pub items : All (λ item. EachTextGrapheme TakesOneColumn item.content) l.items.items

-- a screen can show all that a list shows inside its box
pub record HasShowableItems (l : ListData) : Type 0 where
  pub symbol : IfSome l.highlight_symbol IsShowable
  pub items : All (λ item. IsShowableText item.content) l.items.items

-- The state after a list was shown in so many rows: the selection is at most the last item, and the first item
-- is such that the selected one is in view. Without items nothing is selected.
pub record IsNextListState (l : ListData) (height : ℕ) (s t : ListState) : Type 0 where
  pub no_items : l.items.items ≡ [] → t ≡ record { offset = 0; selected = None }
  pub selected : 0 < length l.items.items → t.selected ≡ at_most (last_item l.items.items) s.selected
  pub offset : 0 < length l.items.items
      → IsOffset l.items.items height l.scroll_padding t.selected s.offset t.offset

-- the items of a list over an area, from the next state's first one on, as many as fit whole
pub record ShowsList (l : ListData) (s t : ListState) (r : Rect) (old new : BufferData) : Type 0 where
  pub state : IsNextListState l r.height s t
  pub count : ℕ
  pub is_count : IsCount l.items.items r.height t.offset count
  pub shown : ShowsItems l t.selected r t.offset 0 (take count (drop t.offset l.items.items)) old new

-- a list in its style and its box, over the part of an area that a buffer has
abbrev pub RendersList : ListData → ListState → ListState → Rect → BufferData → BufferData → Type 0
RendersList l = RendersStateInFrame l.style l.block (ShowsList l)

-- a list without a state of its own: from the first item on, none selected
abbrev pub RendersListFresh : ListData → Rect → BufferData → BufferData → Type 0
RendersListFresh l area old new = (last : ListState)
    × RendersList l (record { offset = 0; selected = None }) last area old new
