-- Texts whose graphemes take one column are written in narrow pieces.
use Rattle.std.proofs.Common.{◌≡◌, ℕ, ◌-◌, ◌≤◌, List, [], ◌∷◌, subst, arith}
use Rattle.std.proofs.lemmas.{List.Elements.All-nil, List.Elements.All-append, List.Elements.All-head, List.Elements.All-tail}
use Rattle.rtui_geometry.specs.declared.rect.Rect.{Rect}
use Rattle.rtui_style.specs.{declared.Style.Style, Style.patch}
use Rattle.rtui_cell.specs.Width.{text_width}
use Rattle.rtui_text.specs.{Text.SpanData, Graphemes.EachGrapheme, Graphemes.EachSpanGrapheme, Graphemes.TakesOneColumn}
use Rattle.rtui_buffer.specs.{Painting.Piece, Painting.columns, Painting.text_pieces, Line.line_pieces, PaintedText.room_at}
use Rattle.rtui_widgets.proofs.NarrowTextLemmas.{pieces-narrow}
use Rattle.rtui_drawing.proofs.Laws.{IsNarrowThing}
use Rattle.rtui_drawing.specs.{declared.cut.Cut.Cut, Cuts.cut_from, Drawings.some_pieces}
use Rattle.rtui_drawing.specs.declared.cut.Cut.TheVariants.{First, After, Last, BeforeLast, Middle, Rows, Below, Above, Within}

-- a text, in as many columns as a buffer has
pub text-narrow : (room : ℕ) (style : Style) (text : List ℕ) → room ≤ 65535 → EachGrapheme TakesOneColumn text
    → IsNarrowThing (some_pieces (text_pieces room style text))
text-narrow room style text le narrow =
    let own : Rect = record { x = 0; y = 0; width = room; height = 1 } in
    let is : room_at own 0 room ≡ room = omega arith in
    subst (λ n. IsNarrowThing (some_pieces (text_pieces n style text))) is (pieces-narrow own 0 room style text narrow)

-- a part of an area has no more columns than the area may have
pub cut-width : (c : Cut) (r : Rect) → r.width ≤ 65535 → (cut_from c r).width ≤ 65535
cut-width (First n) r le = omega arith
cut-width (After n) r le = omega arith
cut-width (Last n) r le = omega arith
cut-width (BeforeLast n) r le = omega arith
cut-width (Middle n) r le = omega arith
cut-width (Rows y n) r le = le
cut-width (Below n) r le = le
cut-width (Above n) r le = le
cut-width (Within q) r le = omega arith

abbrev IsNarrowSpan : SpanData → Type 0
IsNarrowSpan span = EachGrapheme TakesOneColumn span.content

-- and a line
pub line-narrow : (room : ℕ) (base : Style) (spans : List SpanData) → room ≤ 65535
    → EachSpanGrapheme TakesOneColumn spans → IsNarrowThing (some_pieces (line_pieces room base spans))
unfolding line_pieces
line-narrow room base [] le all = All-nil (λ (p : Piece). text_width p.symbol ≤ 1)
line-narrow room base (s ∷ ss) le all =
    let ps = text_pieces room (patch base s.style) s.content in
    All-append (λ (p : Piece). text_width p.symbol ≤ 1) ps (line_pieces (room - columns ps) base ss)
    (text-narrow room (patch base s.style) s.content le (All-head IsNarrowSpan s ss all))
    (line-narrow (room - columns ps) base ss (omega arith) (All-tail IsNarrowSpan s ss all))
