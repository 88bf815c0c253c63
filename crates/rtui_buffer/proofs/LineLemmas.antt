-- How painting of spans goes on, a span at a time.
use Rattle.std.proofs.Common.{◌≡◌, ℕ, ◌+◌, ◌-◌, ◌<◌, ◌≤◌, true, List, [], ◌∷◌, ◌++◌, length, drop, get_or}
use Rattle.std.proofs.Common.{refl, sym, ap, subst, ◌∙◌, arith}
use Rattle.std.proofs.lemmas.{List.drop_all, List.drop_more, List.Sums.sum_by-append}
use Rattle.unicode_segmentation.specs.Grapheme.{graphemes}
use Rattle.rtui_style.specs.{declared.Style.Style, Style.patch}
use Rattle.rtui_cell.specs.{declared.cell.Cell.Cell, Symbol.IsShort}
use Rattle.rtui_text.specs.Text.{SpanData}
use Rattle.rtui_buffer.specs.Painting.{Piece, piece_width, text_pieces, columns, AreWide}
use Rattle.rtui_buffer.specs.Painted.{with_piece, painted}
use Rattle.std.proofs.lemmas.List.{take_at, Elements.All-take}
use Rattle.rtui_buffer.specs.{PaintedText.AreShort, Line.line_pieces}
use Rattle.rtui_buffer.proofs.PaintLemmas.{painted-nil, painted-cons}
use Rattle.rtui_buffer.proofs.PaintedLemmas.{AreWide-kept, columns-kept}
use Rattle.rtui_buffer.proofs.TextLemmas.{text_pieces-none, columns-none}

pub columns-append : (ps qs : List Piece) → columns (ps ++ qs) ≡ columns ps + columns qs
columns-append ps qs = sum_by-append piece_width ps qs

AreWide-append : (ps qs : List Piece) → AreWide ps → AreWide qs → AreWide (ps ++ qs)
AreWide-append [] qs h g = g
AreWide-append (p ∷ ps) qs h g = (h.0, AreWide-append ps qs h.1 g)

-- painting pieces and then others after them is painting them all
pub painted-append : (at : ℕ) (ps qs : List Piece) (cells : List Cell)
    → painted at (ps ++ qs) cells ≡ painted (at + columns ps) qs (painted at ps cells)
painted-append at [] qs cells = let here : at + columns [] ≡ at = omega arith in rw (here, painted-nil at cells)
painted-append at (p ∷ ps) qs cells =
    let place : at + columns (p ∷ ps) ≡ at + piece_width p + columns ps = omega (arith, sum_by-append piece_width (p ∷ []) ps) in
    rw (place, painted-cons at p ps cells) (painted-cons at p (ps ++ qs) cells
    ∙ painted-append (at + piece_width p) ps qs (with_piece at p cells))

pub line_pieces-nil : (room : ℕ) (base : Style) → line_pieces room base [] ≡ []
unfolding line_pieces
line_pieces-nil room base = refl

pub line_pieces-cons : (room : ℕ) (base : Style) (s : SpanData) (ss : List SpanData)
    → line_pieces room base (s ∷ ss) ≡ text_pieces room (patch base s.style) s.content ++ line_pieces
    (room - columns (text_pieces room (patch base s.style) s.content)) base ss
unfolding line_pieces
line_pieces-cons room base s ss = refl

pub line_pieces-none : (room : ℕ) (base : Style) (ss : List SpanData) → room ≡ 0 → line_pieces room base ss ≡ []
line_pieces-none room base [] e = line_pieces-nil room base
line_pieces-none room base (s ∷ ss) e =
    let none = text_pieces-none room (patch base s.style) s.content e in
    line_pieces-cons room base s ss ∙ ap (λ ps. ps ++ line_pieces (room - columns ps) base ss) none
    ∙ line_pieces-none (room - 0) base ss (omega arith)

pub columns-line : (room : ℕ) (base : Style) (ss : List SpanData) → columns (line_pieces room base ss) ≤ room
columns-line room base [] = rw (line_pieces-nil room base) (omega arith)
columns-line room base (s ∷ ss) =
    let ps : List Piece = text_pieces room (patch base s.style) s.content in
    let first : columns ps ≤ room = columns-kept (patch base s.style) room (graphemes true s.content) in
    let others : columns (line_pieces (room - columns ps) base ss) ≤ room - columns ps =
    columns-line (room - columns ps) base ss in
    rw line_pieces-cons (omega (arith, columns-append ps (line_pieces (room - columns ps) base ss)))

pub AreWide-line : (room : ℕ) (base : Style) (ss : List SpanData) → AreWide (line_pieces room base ss)
AreWide-line room base [] = rw (line_pieces-nil room base) tt
AreWide-line room base (s ∷ ss) =
    let ps : List Piece = text_pieces room (patch base s.style) s.content in
    rw line_pieces-cons (AreWide-append ps (line_pieces (room - columns ps) base ss)
    (AreWide-kept (patch base s.style) room (graphemes true s.content)) (AreWide-line (room - columns ps) base ss))

-- the pieces that a turn of the loop paints, before those of the spans after
pub span-pieces : (base : Style) (used room i : ℕ) (ss : List SpanData) (s : SpanData) → i < length ss → s ≡ get_or ss i s
    → let ps = text_pieces (room - used) (patch base s.style) s.content in
    line_pieces (room - used) base (drop i ss) ≡ ps ++ line_pieces (room - (used + columns ps)) base (drop (i + 1) ss)
span-pieces base used room i ss s lt is =
    let next : drop i ss ≡ s ∷ drop (i + 1) ss = drop_more ss i s lt ∙ ap (λ t. t ∷ drop (i + 1) ss) (sym is) in
    let ps : List Piece = text_pieces (room - used) (patch base s.style) s.content in
    let rest : room - used - columns ps ≡ room - (used + columns ps) = omega arith in
    ap (line_pieces (room - used) base) next ∙ line_pieces-cons (room - used) base s (drop (i + 1) ss)
    ∙ ap (λ n. ps ++ line_pieces n base (drop (i + 1) ss)) rest

-- of short pieces the first are short
pub short-front : (ps qs : List Piece) → AreShort (ps ++ qs) → AreShort ps
short-front ps qs h = subst AreShort (take_at ps qs (length ps) refl) (All-take (λ p. IsShort p.symbol) (length ps) (ps ++ qs) h)

pub line_pieces-end : (room i : ℕ) (base : Style) (ss : List SpanData) → length ss ≤ i → line_pieces room base (drop i ss) ≡ []
line_pieces-end room i base ss le = ap (line_pieces room base) (drop_all i ss le) ∙ line_pieces-nil room base

pub ruleset no_line_steps = (line_pieces-none, columns-none)
