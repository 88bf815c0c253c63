-- What a throbber draws.
use Rattle.std.specs.Prelude.{◌≡◌, ℕ, ◌-◌, List, Option, Some, None, All, IfSome, codes}
use Rattle.ratatui_core.specs.{Layout.Rect, Style.Style, Style.new_style, Text.SpanData}
use Rattle.ratatui_core.specs.{Text.EachGrapheme, Text.TakesOneColumn}
use Rattle.ratatui_core.specs.Buffer.{BufferData, text_pieces, columns}
use Rattle.rtui_drawing.specs.declared.cut.Cut.TheVariants.{After, Rows}
use Rattle.rtui_drawing.specs.Drawings.{Drawing, nothing, over, ◌before◌, put_pieces}
use Rattle.rtui_inside.specs.Inside.{DrawsStateInside, LeavesInside, IsShortInside}
use Rattle.widget_throbber.specs.declared.set.WhichUse.TheVariants.{Spin}
use Rattle.widget_throbber.specs.declared.state.ThrobberState.{ThrobberState}
use Rattle.widget_throbber.specs.declared.throbber.Throbber.{Throbber}
use Rattle.widget_throbber.specs.Sets.{turned_symbol, texts_of_set, six_dots_texts}

-- a throbber of six dots that turns, without a label and styles
pub record IsNewThrobber (t : Throbber) : Type 0 where
  pub unlabelled : t.label ≡ None
  pub unstyled : t.style ≡ new_style
  pub unstyled_symbol : t.throbber_style ≡ new_style
  pub six_dots : texts_of_set t.throbber_set ≡ six_dots_texts
  pub turns : t.use_type ≡ Spin

-- a text at the left of a row of so many columns, and f in those that are left
abbrev pub text_then : Style → List ℕ → (ℕ → Drawing) → ℕ → Drawing
text_then style text f room =
    let ps = text_pieces room style text in put_pieces ps before over (After (columns ps)) (f (room - columns ps))

-- a label, if there is one
abbrev pub label_drawing : Option SpanData → ℕ → Drawing
label_drawing None room = nothing
label_drawing (Some label) room = put_pieces (text_pieces room label.style label.content)

-- a symbol and a blank, both in the symbol's style, and the label
abbrev pub turned_symbol_drawing : Throbber → List ℕ → ℕ → Drawing
turned_symbol_drawing t symbol =
    text_then t.throbber_style symbol (text_then t.throbber_style (codes " ") (label_drawing t.label))

-- the same if there is a symbol, and else nothing
abbrev pub turned_drawing : Throbber → Option (List ℕ) → ℕ → Drawing
turned_drawing t None room = nothing
turned_drawing t (Some symbol) room = turned_symbol_drawing t symbol room

-- all that a throbber draws in an area: in its first row
abbrev pub throbber_drawing : Throbber → ThrobberState → Rect → Drawing
throbber_drawing t s r = over (Rows 0 1) (turned_drawing t (turned_symbol t.throbber_set t.use_type s.index) r.width)

-- A throbber over the part of an area that a buffer has: its style, and in the first row the symbol, a blank
-- and the label. Nothing outside the area changes, and the state stays.
abbrev pub RendersThrobber : Throbber → ThrobberState → ThrobberState → Rect → BufferData → BufferData
    → Type 0
RendersThrobber t = DrawsStateInside t.style None (throbber_drawing t) (λ s _. s)

-- what a refusal leaves: the style, and all before one of the texts; the state stays
pub record LeavesThrobber (t : Throbber) (s s' : ThrobberState) (area : Rect) (old new : BufferData) : Type 0 where
  pub state : s' ≡ s
  pub drawn : LeavesInside t.style None (throbber_drawing t s) area old new

-- it takes no memory if all that shows of it is short
abbrev pub IsShortThrobber : Throbber → ThrobberState → Rect → BufferData → Type 0
IsShortThrobber t s = IsShortInside None (throbber_drawing t s)

-- each grapheme of its set and of its label takes one column
pub record HasNarrowThrobber (t : Throbber) : Type 0 where
  pub symbols : All (EachGrapheme TakesOneColumn) (texts_of_set t.throbber_set)
  pub label : IfSome t.label (λ label. EachGrapheme TakesOneColumn label.content)
