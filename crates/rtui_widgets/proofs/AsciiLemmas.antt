-- Texts of ASCII put one short grapheme into a column.
use Rattle.std.proofs.Common.{◌≡◌, ℕ, zero, suc, ◌+◌, ◌-◌, ◌<◌, ◌≤◌, inl, inr, true, false, List, [], ◌∷◌, length, All, refl}
use Rattle.std.proofs.Common.{arith, append-nil, ◌==◌, nat_le, not, filter, Option}
use Rattle.std.specs.{List.concat, Str.IsAscii}
use Rattle.std.proofs.lemmas.{Str.IsAscii-append, Bool.cases_lt, Bool.cases_eq, Bool.cond_both, Bool.Decides.nat_tests}
use Rattle.std.proofs.lemmas.{List.get_or_past}
use Rattle.std.proofs.lemmas.List.Elements.{All-nil, All-head, All-tail, All-filter, filter_passes}
use Rattle.unicode_segmentation.specs.Grapheme.{graphemes}
use Rattle.rtui_layout.specs.declared.alignment.HorizontalAlignment.{HorizontalAlignment}
use Rattle.rtui_cell.specs.{Symbol.IsShort, Width.text_width}
use Rattle.rtui_text.specs.{Graphemes.has_control, Widths.span_width}
use Rattle.rtui_text.specs.Text.{SpanData, LineData, TextData, line_of}
use Rattle.rtui_text.proofs.PrintableLemmas.{IsAsciiPiece, AreAsciiChars, ascii-graphemes, piece-printable, wide-printable}
use Rattle.rtui_buffer.specs.{Painting.fitting, BufferData.BufferData}
use Rattle.rtui_geometry.specs.declared.rect.Rect.{Rect}
use Rattle.rtui_style.specs.Style.{new_style}
use Rattle.rtui_buffer.proofs.ShortLemmas.{All-fitting, text-short, ascii-short}
use Rattle.rtui_widgets.specs.Span.{goes_to, those_at, showing, IsShortSpan}
use Rattle.rtui_widgets.specs.Rendering.{AreAscii, text_line, RendersShortText, RendersShortStr}
use Rattle.rtui_widgets.specs.Line.{Part, last_fitting, part_of, parts, AreShortParts, IsShortLine}

-- a grapheme that takes a column of its own and no memory
record IsOwnColumn (g : List ℕ) : Type 0 where
  pub some : 0 < text_width g
  pub short : IsShort g

behind-none : (k x : ℕ) (gs : List (List ℕ)) → k < x → All IsOwnColumn gs → those_at k x gs ≡ []
unfolding those_at
behind-none k x [] lt all = refl
behind-none k x (g ∷ gs) lt all =
    let own = All-head IsOwnColumn g gs all in
    let wide : 0 < text_width g = own.some in
    let other : (goes_to x g == k) ≡ false = grind (arith, nat_tests, wide) in
    rw other (behind-none k (x + text_width g) gs (omega arith) (All-tail IsOwnColumn g gs all))

one-short : (k x : ℕ) (gs : List (List ℕ)) → All IsOwnColumn gs → IsShort (concat (those_at k x gs))
unfolding those_at
one-short k x [] all = omega arith
one-short k x (g ∷ gs) all =
    let own = All-head IsOwnColumn g gs all in
    let wide : 0 < text_width g = own.some in
    let rest = All-tail IsOwnColumn g gs all in
    elim (cases_eq x k) [
      | inl same ↦
          let here : (goes_to x g == k) ≡ true = grind (arith, nat_tests, wide) in
          let alone : those_at k (x + text_width g) gs ≡ [] = behind-none k (x + text_width g) gs (omega arith) rest in
          let short : length g ≤ 22 = own.short in
          rw (here, alone, append-nil g) short
      | inr ne ↦
          let other : (goes_to x g == k) ≡ false = grind (arith, nat_tests, wide) in
          rw other (one-short k (x + text_width g) gs rest)
    ]

-- a piece of ASCII without a control character is printable, and takes a column or two
own_column : (g : List ℕ) → IsAsciiPiece g → not (has_control g) ≡ true → IsOwnColumn g
own_column g h plain = record {
  some = wide-printable g h.some (piece-printable g h.ascii (grind (arith, nat_tests, plain)));
  short = omega (arith, h.few);
}

pub span-ascii : (columns : ℕ) (text : List ℕ) → IsAscii text → IsShortSpan columns text
unfolding showing
span-ascii columns text ascii k k_in =
    let plain = λ (g : List ℕ). not (has_control g) in
    let all = All-filter plain IsAsciiPiece (graphemes true text) (ascii-graphemes text ascii) in
    one-short k 0 (fitting columns (filter plain (graphemes true text)))
    (All-fitting IsOwnColumn columns (filter plain (graphemes true text))
    (λ i d lt. own_column _ (all i d lt) (filter_passes plain (graphemes true text) i d lt)))

-- ---- the end of a text of ASCII is one

ascii-joined : (gs : List (List ℕ)) → All IsAsciiPiece gs → IsAscii (concat gs)
ascii-joined [] all = λ i. omega arith
ascii-joined (g ∷ gs) all = IsAscii-append g (concat gs) (from_each g (All-head IsAsciiPiece g gs all).ascii)
    (ascii-joined gs (All-tail IsAsciiPiece g gs all))
  where
    from_each : (cs : List ℕ) → AreAsciiChars cs → IsAscii cs
    from_each [] low i = omega arith
    from_each (c ∷ cs) low zero = low.0
    from_each (c ∷ cs) low (suc i) = from_each cs low.1 i

last-ascii : (room : ℕ) (gs : List (List ℕ)) → All IsAsciiPiece gs → All IsAsciiPiece (last_fitting room gs)
unfolding last_fitting
last-ascii room [] all = all
last-ascii room (g ∷ gs) all = cond_both _ (g ∷ gs) _ (All IsAsciiPiece) (λ _. all)
    (λ _. last-ascii room gs (All-tail IsAsciiPiece g gs all))

part-ascii : (skip : ℕ) (span : SpanData) → IsAscii span.content → IsAscii (part_of skip span).content
part-ascii skip span ascii =
    cond_both (skip == 0) _ _ (λ (p : Part). IsAscii p.content) (λ _. ascii)
    (λ _. ascii-joined (last_fitting (span_width span - skip) (graphemes true span.content))
    (last-ascii (span_width span - skip) (graphemes true span.content) (ascii-graphemes span.content ascii)))

parts-ascii : (columns skip : ℕ) (spans : List SpanData) → AreAscii spans → AreShortParts columns (parts skip spans)
unfolding parts AreShortParts
parts-ascii columns skip [] all = tt
parts-ascii columns skip (span ∷ spans) all =
    let ascii = All-head (λ (span : SpanData). IsAscii span.content) span spans all in
    let rest = All-tail (λ (span : SpanData). IsAscii span.content) span spans all in
    let others = λ (n : ℕ). parts-ascii n (skip - span_width span) spans rest in
    cond_both (nat_le (span_width span) skip) _ (part_of skip span ∷ parts (skip - span_width span) spans) (AreShortParts columns)
    (λ _. others columns)
    (λ _. (span-ascii _ (part_of skip span).content (part-ascii skip span ascii), others _))

pub line-ascii : (alignment : Option HorizontalAlignment) (line : LineData) (columns : ℕ) → AreAscii line.spans
    → IsShortLine alignment line columns
line-ascii alignment line columns all = parts-ascii _ _ line.spans all

pub text-ascii : (text : TextData) (area : Rect) (s : BufferData) → All (λ line. AreAscii line.spans) text.lines
    → RendersShortText text area s
text-ascii text area s all = λ k k_in. line-ascii _ (text_line text k) _ (elim (cases_lt k (length text.lines)) [
  | inl inside ↦ all k (line_of []) inside
  | inr past ↦ rw (get_or_past text.lines k (line_of []) past) (All-nil (λ (span : SpanData). IsAscii span.content))
])

pub painted-ascii : (text : List ℕ) (area : Rect) (s : BufferData) → IsAscii text → RendersShortStr text area s
painted-ascii text area s ascii = text-short _ new_style text (ascii-short text ascii)
