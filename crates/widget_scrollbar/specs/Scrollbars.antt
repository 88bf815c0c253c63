-- A scroll bar: where it stands, and where its thumb is.
use Rattle.std.specs.Prelude.{◌≡◌, ℕ, zero, suc, Bool, true, false, ◌+◌, ◌-◌, ◌*◌, ◌/◌, ◌<◌, ◌⊎◌, nat_lt, min}
use Rattle.std.specs.Prelude.{max, List, [], ◌∷◌, codes, encode_utf8_all, Option, Some, None, if◌then◌else◌}
use Rattle.std.specs.Prelude.{All, IfSome, ◌^◌}
use Rattle.std.specs.Borrow.{Bor}
use Rattle.ratatui_core.specs.{Layout.Rect, Layout.Position, Symbols.scrollbar_texts, Style.Style}
use Rattle.ratatui_core.specs.{Style.new_style, declared.symbols.scrollbar.Set.Set}
use Rattle.ratatui_core.specs.Buffer.{BufferData, Cell, styled, with_symbol, ChangesEach, text_width}
use Rattle.ratatui_core.specs.Buffer.{PaintsPieces, pieces_at, IsOneGrapheme}
use Rattle.ratatui_core.specs.Text.{has_control}
use Rattle.ratatui_core.specs.Widgets.{ChangesWithin, OnPart}
use Rattle.widget_boxes.specs.{Titles.InTurn}
use Rattle.rtui_drawing.specs.{Cuts.cut_from, declared.cut.Cut.Cut}
use Rattle.rtui_drawing.specs.declared.cut.Cut.TheVariants.{First, Last, Rows}
use Rattle.widget_scrollbar.specs.{declared.scrollbar.Scrollbar.Scrollbar, declared.scrollbar.Marks.Marks}
use Rattle.widget_scrollbar.specs.{declared.scrollbar.state.ScrollbarState.ScrollbarState}
use Rattle.widget_scrollbar.specs.declared.scrollbar.state.ScrollDirection.{ScrollDirection}
use Rattle.widget_scrollbar.specs.declared.scrollbar.state.ScrollDirection.TheVariants.{Forward, Backward}
use Rattle.widget_scrollbar.specs.{declared.scrollbar.ScrollbarOrientation.ScrollbarOrientation}
use Rattle.widget_scrollbar.specs.declared.scrollbar.ScrollbarOrientation.TheVariants.{VerticalRight}
use Rattle.widget_scrollbar.specs.declared.scrollbar.ScrollbarOrientation.TheVariants.{VerticalLeft}
use Rattle.widget_scrollbar.specs.declared.scrollbar.ScrollbarOrientation.TheVariants.{HorizontalBottom}
use Rattle.widget_scrollbar.specs.declared.scrollbar.ScrollbarOrientation.TheVariants.{HorizontalTop}

-- the position is one further, as far as the content goes
abbrev pub moved_on : ScrollbarState → ScrollbarState
moved_on s = record s { position = min (min (s.position + 1) (2 ^ 64 - 1)) (s.content_length - 1) }

-- one on or back
abbrev pub scrolled_by : ScrollDirection → ScrollbarState → ScrollbarState
scrolled_by Forward s = moved_on s
scrolled_by Backward s = record s { position = s.position - 1 }

-- the bar goes from above to below
abbrev pub is_upright : ScrollbarOrientation → Bool
is_upright VerticalRight = true
is_upright VerticalLeft = true
is_upright HorizontalBottom = false
is_upright HorizontalTop = false

-- the texts of a set of double lines for a side: the track, the thumb, and what stands at the start and the
-- end
abbrev pub texts_for : ScrollbarOrientation → List (List ℕ)
texts_for o =
    if is_upright o then encode_utf8_all (codes "║") ∷ encode_utf8_all (codes "█") ∷ encode_utf8_all
    (codes "▲") ∷ encode_utf8_all (codes "▼") ∷ []
    else encode_utf8_all (codes "═") ∷ encode_utf8_all (codes "█") ∷ encode_utf8_all
    (codes "◄") ∷ encode_utf8_all (codes "►") ∷ []

-- the set is one of double lines for a side
abbrev pub IsSetFor : ScrollbarOrientation → Set → Type 0
IsSetFor o set = scrollbar_texts set ≡ texts_for o

-- a bar of double lines at a side, with arrows
pub record IsNewScrollbar (o : ScrollbarOrientation) (b : Scrollbar) : Type 0 where
  pub set : Set
  pub is_set : IsSetFor o set
  pub side : b.orientation ≡ o
  pub thumb : b.thumb_symbol ≡ set.thumb
  pub track : b.track_symbol ≡ Some set.track
  pub begin : b.begin_symbol ≡ Some set.begin
  pub end : b.end_symbol ≡ Some set.end
  pub unstyled_thumb : b.thumb_style ≡ new_style
  pub unstyled_track : b.track_style ≡ new_style
  pub unstyled_begin : b.begin_style ≡ new_style
  pub unstyled_end : b.end_style ≡ new_style

-- another symbol, if there is one
abbrev pub replaced : Option (Bor (List ℕ)) → Bor (List ℕ) → Option (Bor (List ℕ))
replaced None other = None
replaced (Some symbol) other = Some other

-- a bar of other symbols; what it doesn't show stays away
abbrev pub with_bar_symbols : Set → Scrollbar → Scrollbar
with_bar_symbols set b = record b {
  thumb_symbol = set.thumb;
  track_symbol = replaced b.track_symbol set.track;
  begin_symbol = replaced b.begin_symbol set.begin;
  end_symbol = replaced b.end_symbol set.end;
}

-- a bar at a side, in double lines
pub record HasSymbols (o : ScrollbarOrientation) (old new : Scrollbar) : Type 0 where
  pub set : Set
  pub is_set : IsSetFor o set
  pub value : new ≡ record (with_bar_symbols set old) { orientation = o }

-- where a bar stands: the row or the column at its side of an area
abbrev pub side_cut : ScrollbarOrientation → Rect → Cut
side_cut VerticalRight r = Last 1
side_cut VerticalLeft r = First 1
side_cut HorizontalBottom r = Rows (r.height - 1) 1
side_cut HorizontalTop r = Rows 0 1

abbrev pub bar_area : ScrollbarOrientation → Rect → Rect
bar_area o r = cut_from (side_cut o r) r

-- how many cells it has
abbrev pub bar_length : ScrollbarOrientation → Rect → ℕ
bar_length o r = if is_upright o then r.height else r.width

-- 1 if there is a symbol
abbrev pub arrow_count : Option (Bor (List ℕ)) → ℕ
arrow_count None = 0
arrow_count (Some symbol) = 1

-- how long the track is: the bar without its arrows
abbrev pub track_length : Scrollbar → ℕ → ℕ
track_length b length = length - (arrow_count b.begin_symbol + arrow_count b.end_symbol)

-- how much is seen at once: as much as the state says, or as the bar is long
abbrev pub seen_rows : ScrollbarState → ℕ → ℕ
seen_rows s length = if nat_lt 0 s.viewport_content_length then s.viewport_content_length else length

-- the position, but at most the last one
abbrev pub first_seen : ScrollbarState → ℕ
first_seen s = min s.position (s.content_length - 1)

-- how far one can see: from the first row to the last one that is seen if the content's last one is seen
-- first
abbrev pub whole_length : ScrollbarState → ℕ → ℕ
whole_length s length = s.content_length - 1 + seen_rows s length

-- the quotient of two numbers, rounded to the nearest one
abbrev pub rounded_quotient : ℕ → ℕ → ℕ
rounded_quotient n d = (2 * n + d) / (2 * d)

-- where the thumb begins on a track: in proportion to what is before it
abbrev pub thumb_start : ScrollbarState → ℕ → ℕ → ℕ
thumb_start s track length = min (rounded_quotient (first_seen s * track) (whole_length s length)) (track - 1)

-- where it ends, in proportion
abbrev pub thumb_end : ScrollbarState → ℕ → ℕ → ℕ
thumb_end s track length = min (rounded_quotient ((first_seen s + seen_rows s length) * track)
    (whole_length s length)) track

-- how long it is: at least one cell
abbrev pub thumb_length : ScrollbarState → ℕ → ℕ → ℕ
thumb_length s track length = max (thumb_end s track length - thumb_start s track length) 1

-- the symbol and the style at a place of a bar
abbrev pub mark_of : Marks → ℕ → Option (Bor (List ℕ)) × Style
mark_of m k =
    if nat_lt k m.track then (m.bar.begin_symbol, m.bar.begin_style)
    else if nat_lt k m.thumb then (m.bar.track_symbol, m.bar.track_style)
    else if nat_lt k m.after_thumb then (Some m.bar.thumb_symbol, m.bar.thumb_style)
    else if nat_lt k m.after_track then (m.bar.track_symbol, m.bar.track_style) else (
      m.bar.end_symbol,
      m.bar.end_style,
    )

-- where a place of a bar stands
abbrev pub position_on_bar : Marks → ℕ → Position
position_on_bar m k =
    if m.is_vertical then record { x = m.area.x; y = m.area.y + k }
    else record { x = m.area.x + k; y = m.area.y }

-- a symbol painted from a position of an area on, in at most the columns that the area has from there
abbrev pub PaintsSymbolIn : Rect → Position → Style → List ℕ → BufferData → BufferData → Type 0
PaintsSymbolIn r p style symbol old =
    PaintsPieces p (pieces_at old.area p.x (r.x + r.width - p.x) style symbol) old

-- the same, if there is one
abbrev pub PaintsIfSymbol : Rect → Position → Option (Bor (List ℕ)) × Style → BufferData → BufferData → Type 0
PaintsIfSymbol r p (None, style) old new = new ≡ old
PaintsIfSymbol r p (Some symbol, style) old new = PaintsSymbolIn r p style symbol.now old new

-- the symbol at a place of a bar in an area
abbrev pub PaintsMark : Marks → Rect → ℕ → BufferData → BufferData → Type 0
PaintsMark m r k = PaintsIfSymbol r (position_on_bar m k) (mark_of m k)

-- the symbols of the first n places, one after the other
abbrev pub PaintsMarks : Marks → Rect → ℕ → BufferData → BufferData → Type 0
PaintsMarks m r zero old new = new ≡ old
PaintsMarks m r (suc n) old new = InTurn (PaintsMarks m r n) (PaintsMark m r n) old new

-- the place of a position on a bar
abbrev pub place_on_bar : Marks → Position → ℕ
place_on_bar m p = if m.is_vertical then p.y - m.area.y else p.x - m.area.x

-- a cell with a symbol in a style, or as it is
abbrev pub marked : Option (Bor (List ℕ)) × Style → Cell → Cell
marked (None, style) c = c
marked (Some symbol, style) c = styled style (with_symbol symbol.now c)

-- a cell of a bar of symbols of one column
abbrev pub marked_cell : Marks → Position → Cell → Cell
marked_cell m p c = marked (mark_of m (place_on_bar m p)) c

-- the marks of a bar over an area
abbrev pub marks_of : Scrollbar → ScrollbarState → Rect → Marks
marks_of b s r =
    let length = bar_length b.orientation r in
    let track = track_length b length in
    let first = arrow_count b.begin_symbol in
    record {
      is_vertical = is_upright b.orientation;
      area = bar_area b.orientation r;
      track = first;
      thumb = first + thumb_start s track length;
      after_thumb = first + thumb_start s track length + thumb_length s track length;
      after_track = first + track;
      bar = b;
    }

-- the symbols of a bar: of the thumb, the track, the beginning and the end
abbrev pub bar_symbols : Scrollbar → List (Option (Bor (List ℕ)))
bar_symbols b = Some b.thumb_symbol ∷ b.track_symbol ∷ b.begin_symbol ∷ b.end_symbol ∷ []

-- a symbol is one grapheme, which shows in one column
pub record IsOneColumn (symbol : List ℕ) : Type 0 where
  pub one : IsOneGrapheme symbol
  pub shows : has_control symbol ≡ false
  pub columns : text_width symbol ≡ 1

-- P holds of a symbol, if there is one
abbrev pub IfSymbol : (List ℕ → Type 0) → Option (Bor (List ℕ)) → Type 0
IfSymbol P symbol = IfSome symbol (λ text. P text.now)

-- P holds of each symbol of a bar
abbrev pub EachSymbol : (List ℕ → Type 0) → Scrollbar → Type 0
EachSymbol P b = All (IfSymbol P) (bar_symbols b)

-- A bar over an area: its symbols painted from its start to its end. If each takes one column, each cell of
-- the row or the column at its side has its own, and all else is as before. Without a content or without
-- room for a track nothing changes.
pub record MarksBar (b : Scrollbar) (s : ScrollbarState) (r : Rect) (old new : BufferData) : Type 0 where
  pub none : (s.content_length ≡ 0) ⊎ (track_length b (bar_length b.orientation r) ≡ 0) → new ≡ old
  pub some : 0 < s.content_length → 0 < track_length b (bar_length b.orientation r)
      → PaintsMarks (marks_of b s r) r (bar_length b.orientation r) old new
  pub cells : 0 < s.content_length → 0 < track_length b (bar_length b.orientation r)
      → EachSymbol IsOneColumn b
      → ChangesEach (bar_area b.orientation r) (marked_cell (marks_of b s r)) old new

-- A scroll bar over the part of an area that a buffer has. Nothing outside the area changes, and the state
-- stays as it is.
pub record RendersScrollbar (b : Scrollbar) (s t : ScrollbarState) (area : Rect)
    (old new : BufferData) : Type 0 where
  pub state : t ≡ s
  pub within : ChangesWithin area old new
  pub bar : OnPart (MarksBar b s) area old new
