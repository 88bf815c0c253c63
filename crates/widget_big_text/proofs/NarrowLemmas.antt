-- Big texts keep cells plain.
use Rattle.std.proofs.Common.{◌≡◌, ℕ, zero, suc, ◌+◌, ◌-◌, ◌*◌, ◌/◌, ◌%◌, ◌<◌, ◌≤◌, Bool, true, false, ◌&&◌, nat_le, nat_lt}
use Rattle.std.proofs.Common.{List, [], ◌∷◌, length, Option, Some, None, IfSome, slice_get, slice_index, if◌then◌else◌, refl, arith}
use Rattle.std.specs.Char.{encode_utf8}
use Rattle.std.proofs.lemmas.{Bool.and_parts, Bool.Decides.nat_tests}
use Rattle.unicode_width.proofs.Computing.{unicode_width}
use Rattle.ratatui_core.specs.{Layout.Rect, Layout.intersected, Style.Style, Style.new_style}
use Rattle.ratatui_core.specs.Text.{LineData, GraphemeData}
use Rattle.ratatui_core.specs.Buffer.{BufferData, Cell, with_symbol, text_width, IsPlain, IsPlainFrom}
use Rattle.ratatui_core.proofs.BufferLemmas.{plain-styled, plain-with_symbol}
use Rattle.widget_boxes.specs.{Boxes.IsNarrowBox, Framed.inner_if}
use Rattle.rtui_inside.proofs.InsideLemmas.{inside-plain}
use Rattle.widget_big_text.specs.declared.letter.TheConstants.{QUADRANTS}
use Rattle.widget_big_text.specs.declared.big_text.BigText.{BigText}
use Rattle.widget_big_text.specs.declared.pixel_size.PixelSize.{PixelSize}
use Rattle.widget_big_text.specs.Glyphs.{glyph_of, letter_columns, letter_rows, shows_quarter, quarters_shown, letter_mark}
use Rattle.widget_big_text.specs.BigTexts.{showing_letter, cell_of_letter, letters_cell, letters_of, line_start, cell_of_line}
use Rattle.widget_big_text.specs.BigTexts.{big_text_drawing, RendersBigText}

abbrev are_narrow : List ℕ → Bool
are_narrow [] = true
are_narrow (c ∷ cs) = nat_le (text_width (encode_utf8 c)) 1 && are_narrow cs

quadrants : are_narrow QUADRANTS ≡ true
unfolding encode_utf8 text_width unicode_width
quadrants = refl

-- what holds of all holds of each
nth-narrow : (cs : List ℕ) (i : ℕ) → are_narrow cs ≡ true → i < length cs → text_width (encode_utf8 (slice_index cs i)) ≤ 1
nth-narrow [] i all lt = absurd (omega arith)
nth-narrow (c ∷ cs) zero all lt =
    let e : nat_le (text_width (encode_utf8 c)) 1 ≡ true = (and_parts _ _ all).0 in grind (arith, nat_tests, e)
nth-narrow (c ∷ cs) (suc i) all lt = nth-narrow cs i (and_parts _ _ all).1 (omega arith)

bit-small : (b : Bool) → (if b then 1 else 0) ≤ 1
bit-small true = omega arith
bit-small false = omega arith

-- four quarters make a number below 16
four-small : (a b c d : ℕ) → a ≤ 1 → b ≤ 1 → c ≤ 1 → d ≤ 1 → a + 2 * b + 4 * (c + 2 * d) < 16
four-small a b c d la lb lc ld = omega arith

mark-narrow : (size : PixelSize) (rows : List ℕ) (x y : ℕ) → text_width (encode_utf8 (letter_mark size rows x y)) ≤ 1
mark-narrow size rows x y =
    let shows = shows_quarter size rows x y in
    nth-narrow QUADRANTS (quarters_shown size rows x y) quadrants (four-small (shows 0 0) (shows 1 0) (shows 0 1) (shows 1 1)
    (bit-small _) (bit-small _) (bit-small _) (bit-small _))

marked-plain : (size : PixelSize) (rows : List ℕ) (style : Style) (x y : ℕ) (c : Cell) → IsPlain c
    → IsPlain (showing_letter size rows style x y c)
marked-plain size rows style x y c is =
    plain-styled style (with_symbol (encode_utf8 (letter_mark size rows x y)) c)
    (plain-with_symbol (encode_utf8 (letter_mark size rows x y)) c is (mark-narrow size rows x y))

letter-plain : (size : PixelSize) (o : Option GraphemeData) (x y : ℕ) (c : Cell) → IsPlain c
    → IsPlain (cell_of_letter size o x y c)
letter-plain size None x y c is = is
letter-plain size (Some g) x y c is = marked-plain size (glyph_of g.symbol) g.style x y c is

if-plain : (b : Bool) (c d : Cell) → IsPlain c → IsPlain d → IsPlain (if b then c else d)
if-plain true c d one other = one
if-plain false c d one other = other

line-plain : (t : BigText) (o : Option LineData) (width x y : ℕ) (c : Cell) → IsPlain c
    → IsPlain (cell_of_line t o width x y c)
line-plain t None width x y c is = is
line-plain t (Some line) width x y c is =
    let size = t.pixel_size in
    let start = line_start t line width in
    let n = letter_columns size in
    if-plain (nat_lt x start) c (letters_cell size (letters_of t line) (x - start) y c) is
    (letter-plain size (slice_get (letters_of t line) ((x - start) / n)) ((x - start) % n) y c is)

pub big-text-plain : (t : BigText) (area : Rect) (old new : BufferData) → IfSome t.block IsNarrowBox → IsPlainFrom 0 old
    → RendersBigText t area old new → IsPlainFrom 0 new
big-text-plain t area old new box plain =
    let r = inner_if t.block (intersected area old.area) in
    let n = letter_rows t.pixel_size in
    inside-plain new_style t.block area old new box plain (big_text_drawing t) (λ p c cell.
    line-plain t (slice_get t.lines.items ((p.y - r.y) / n)) r.width (p.x - r.x) ((p.y - r.y) % n) c cell)
