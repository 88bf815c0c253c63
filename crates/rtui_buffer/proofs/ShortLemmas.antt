-- Short graphemes make short pieces.
use Rattle.std.proofs.Common.{ℕ, ◌-◌, true, List, [], ◌∷◌, All, arith}
use Rattle.std.specs.Str.{IsAscii}
use Rattle.std.proofs.lemmas.Bool.{cond_both}
use Rattle.std.proofs.lemmas.List.Elements.{All-nil, All-cons, All-head, All-tail, All-append, All-filter, All-map, All-weaker}
use Rattle.unicode_segmentation.specs.Grapheme.{graphemes}
use Rattle.rtui_style.specs.{declared.Style.Style, Style.patch}
use Rattle.rtui_cell.specs.{Symbol.IsShort, Width.text_width}
use Rattle.rtui_text.specs.Text.{SpanData}
use Rattle.rtui_text.proofs.PrintableLemmas.{IsAsciiPiece, ascii-graphemes}
use Rattle.rtui_buffer.specs.Painting.{has_painted_width, fitting, kept, Piece, piece_of, text_pieces, columns}
use Rattle.rtui_buffer.specs.{PaintedText.AreShort}
use Rattle.rtui_buffer.specs.{Line.line_pieces}
use Rattle.rtui_text.specs.Graphemes.{EachGrapheme, EachSpanGrapheme}

-- what holds of each grapheme holds of those that fit
pub All-fitting : (P : List ℕ → Type 0) (room : ℕ) (gs : List (List ℕ)) → All P gs → All P (fitting room gs)
unfolding fitting
All-fitting P room [] all = All-nil P
All-fitting P room (g ∷ gs) all =
    cond_both _ (g ∷ fitting (room - text_width g) gs) [] (All P) (λ _. All-cons P g _ (All-head P g gs all)
    (All-fitting P (room - text_width g) gs (All-tail P g gs all))) (λ _. All-nil P)

All-kept : (P : List ℕ → Type 0) (room : ℕ) (gs : List (List ℕ)) → All P gs → All P (kept room gs)
unfolding kept
All-kept P room gs all = All-fitting P room _ (All-filter has_painted_width P gs all)

pub text-short : (room : ℕ) (style : Style) (text : List ℕ) → EachGrapheme IsShort text → AreShort (text_pieces room style text)
text-short room style text all =
    All-map (λ (p : Piece). IsShort p.symbol) (piece_of style) (kept room (graphemes true text))
    (All-kept IsShort room (graphemes true text) all)

pub line-short : (room : ℕ) (base : Style) (spans : List SpanData) → EachSpanGrapheme IsShort spans
    → AreShort (line_pieces room base spans)
unfolding line_pieces
line-short room base [] all = All-nil (λ (p : Piece). IsShort p.symbol)
line-short room base (s ∷ ss) all =
    let ps = text_pieces room (patch base s.style) s.content in
    All-append (λ (p : Piece). IsShort p.symbol) ps (line_pieces (room - columns ps) base ss)
    (text-short room (patch base s.style) s.content (All-head (λ (s : SpanData). EachGrapheme IsShort s.content) s ss all))
    (line-short (room - columns ps) base ss (All-tail (λ (s : SpanData). EachGrapheme IsShort s.content) s ss all))

short_piece : (g : List ℕ) → IsAsciiPiece g → IsShort g
short_piece g h = omega (arith, h.few)

pub ascii-short : (text : List ℕ) → IsAscii text → EachGrapheme IsShort text
ascii-short text ascii = All-weaker IsAsciiPiece IsShort short_piece (graphemes true text) (ascii-graphemes text ascii)
