-- Rows one after the other, and graphemes one after the other in a row.
use Rattle.std.proofs.Common.{◌≡◌, ℕ, zero, suc, ◌+◌, ◌-◌, ◌<◌, ◌≤◌, min, nat_le, nat_lt, true, false, List, [], ◌∷◌, length, refl, arith}
use Rattle.std.proofs.Common.{Result, Bool, unwrap_or, IsTrue, ◌↔◌}
use Rattle.std.specs.Fmt.{decimal}
use Rattle.std.proofs.lemmas.{Bool.Decides.nat_tests}
use Rattle.std.specs.declared.alloc.AllocError.{AllocError}
use Rattle.ratatui_core.specs.{Layout.Rect, Style.Style, Style.new_style, Buffer.BufferData, Buffer.text_pieces}
use Rattle.rtui_drawing.specs.Cuts.{cut_from}
use Rattle.rtui_drawing.specs.declared.cut.Cut.TheVariants.{First, After, Last, Rows}
use Rattle.rtui_drawing.specs.Drawings.{nothing, over, ◌before◌, draw_if, put_style, put_pieces, DrawsAll, IsDone, IsRowIn}
use Rattle.rtui_drawing.proofs.DrawingLemmas.{draws-then, done-in}
use Rattle.rtui_drawing.proofs.WriteLemmas.{row-after}
use Rattle.text_area.specs.Lines.{feeds}
use Rattle.text_area.specs.Areas.{area_text}
use Rattle.widget_area.specs.declared.plan.Plan.{Plan}
use Rattle.widget_area.specs.declared.widget.TextAreaWidget.{TextAreaWidget}
use Rattle.widget_area.specs.Columns.{columns_of_grapheme, past}
use Rattle.widget_area.specs.TextAreas.{is_empty, is_selected, number_drawing, placeholder_drawing, grapheme_drawing, graphemes_drawing, numbered_row_drawing, numbered_rows_drawing}

-- parts of a row are rows
pub row-first : (own row : Rect) (n : ℕ) → IsRowIn own row → IsRowIn own (cut_from (First n) row)
row-first own row n is = let l = is.left in let r = is.right in let e = is.edge in record {
  there = is.there;
  left = l;
  right = omega arith;
  edge = omega arith;
  down = is.down;
  high = is.high;
}

pub row-last : (own row : Rect) (n : ℕ) → IsRowIn own row → IsRowIn own (cut_from (Last n) row)
row-last own row n is = let l = is.left in let r = is.right in let e = is.edge in record {
  there = is.there;
  left = omega arith;
  right = omega arith;
  edge = omega arith;
  down = is.down;
  high = is.high;
}

-- no row is left after the last line
pub rows-none : (w : TextAreaWidget) (p : Plan) (width k n : ℕ) → feeds (area_text w.text.now) < p.top + k
    → numbered_rows_drawing w p width k n ≡ nothing
rows-none w p width k zero lt = refl
rows-none w p width k (suc n) lt =
    let test : nat_le (p.top + k) (feeds (area_text w.text.now)) ≡ false = grind (arith, nat_tests) in rw test refl

-- the next row
pub rows-next : (w : TextAreaWidget) (p : Plan) (width height k number : ℕ) → k < height → number ≡ p.top + k
    → number ≤ feeds (area_text w.text.now)
    → numbered_rows_drawing w p width k (height - k) ≡ (over (Rows k 1) (numbered_row_drawing w p width number)
    before numbered_rows_drawing w p width (k + 1) (height - (k + 1)))
rows-next w p width height k number lt is le =
    let more : height - k ≡ suc (height - (k + 1)) = omega arith in
    let test : nat_le (p.top + k) (feeds (area_text w.text.now)) ≡ true = grind (arith, nat_tests) in
    rw (more, is, test) refl

-- nothing is left after the last row
pub rows-end : (w : TextAreaWidget) (p : Plan) (width height k : ℕ) → height ≤ k
    → numbered_rows_drawing w p width k (height - k) ≡ nothing
rows-end w p width height k le = let none : height - k ≡ 0 = omega arith in rw none refl

-- the next grapheme
pub grapheme-next : (w : TextAreaWidget) (p : Plan) (room column byte : ℕ) (g : List ℕ) (gs left : List (List ℕ))
    → left ≡ g ∷ gs → column - p.left < room
    → graphemes_drawing w p room column byte left ≡ (grapheme_drawing w p room column byte g
    before graphemes_drawing w p room (past column (columns_of_grapheme w.tab column g)) (past byte (length g)) gs)
grapheme-next w p room column byte g gs left is lt =
    let test : nat_lt (column - p.left) room ≡ true = grind (arith, nat_tests) in rw (is, test) refl

-- nothing is left after the last column
pub graphemes-end : (w : TextAreaWidget) (p : Plan) (room column byte : ℕ) (gs : List (List ℕ)) → room ≤ column - p.left
    → graphemes_drawing w p room column byte gs ≡ nothing
graphemes-end w p room column byte [] le = refl
graphemes-end w p room column byte (g ∷ gs) le =
    let test : nat_lt (column - p.left) room ≡ false = grind (arith, nat_tests) in rw test refl

-- a grapheme in its row: the style of the selection over its columns in view, and the grapheme over it
pub grapheme-drawn : (w : TextAreaWidget) (p : Plan) (row part columns : Rect) (column byte x shown : ℕ) (g : List ℕ)
    (is_lit is_whole : Bool) (style : Style) (result : Result ℕ AllocError) (old mid new : BufferData)
    → x ≡ column - p.left → shown ≡ columns_of_grapheme w.tab column g - (p.left - column) → is_lit ≡ is_selected p byte
    → is_whole ≡ nat_le p.left column → style ≡ new_style → part ≡ cut_from (After x) row → columns ≡ cut_from (First shown) part
    → DrawsAll (draw_if is_lit (put_style w.selection_style)) columns old mid
    → IsDone (draw_if is_whole (put_pieces (text_pieces part.width style g))) part result mid new
    → IsDone (grapheme_drawing w p row.width column byte g) row result old new
grapheme-drawn w p row part columns column byte x shown g is_lit is_whole style result old mid new x_is shown_is lit whole plain
    part_is columns_is drawn done =
    let one : DrawsAll (over (First shown) (draw_if is_lit (put_style w.selection_style))) part old mid =
    rw columns_is at drawn in
    let both : IsDone (over (First shown) (draw_if is_lit (put_style w.selection_style))
    before draw_if is_whole (put_pieces (text_pieces part.width style g))) part result old new = draws-then result one done in
    let all : IsDone (over (After x) (over (First shown) (draw_if is_lit (put_style w.selection_style))
    before draw_if is_whole (put_pieces (text_pieces part.width style g)))) row result old new =
    done-in (After x) part result both part_is in
    rw (part_is, x_is, shown_is, lit, whole, plain) at all

-- the number of a line in its columns
pub number-drawn : (w : TextAreaWidget) (p : Plan) (row part : Rect) (i room number : ℕ) (style : Style)
    (result : Result ℕ AllocError) (old new : BufferData) → room ≡ p.numbers - 1 → number ≡ past i 1
    → style ≡ unwrap_or w.line_numbers new_style → part ≡ cut_from (First room) row
    → IsDone (over (Last (length (decimal number)))
    (put_pieces (text_pieces (min (length (decimal number)) part.width) style (decimal number)))) part result old new
    → IsDone (number_drawing w p row.width i) row result old new
number-drawn w p row part i room number style result old new room_is number_is style_is part_is done =
    let all : IsDone (over (First room) (over (Last (length (decimal number)))
    (put_pieces (text_pieces (min (length (decimal number)) part.width) style (decimal number))))) row result old new =
    done-in (First room) part result done part_is in
    rw (part_is, room_is, number_is, style_is) at all

-- a text without bytes is empty
pub empty-is : (b : Bool) (text : List ℕ) → (IsTrue b ↔ (text ≡ [])) → b ≡ is_empty text
empty-is b [] is = is.1 refl
empty-is true (x ∷ xs) is = let none : x ∷ xs ≡ [] = is.0 refl in absurd (cc)
empty-is false (x ∷ xs) is = refl

-- the placeholder in the first row
pub placeholder-drawn : (w : TextAreaWidget) (p : Plan) (r first row : Rect) (is_there : Bool) (result : Result ℕ AllocError)
    (old new : BufferData) → first ≡ cut_from (Rows 0 1) r → row ≡ cut_from (After p.numbers) first
    → is_there ≡ is_empty (area_text w.text.now)
    → IsDone (draw_if is_there (put_pieces (text_pieces row.width w.placeholder_style w.placeholder.now))) row result old new
    → IsDone (placeholder_drawing w p r.width) r result old new
placeholder-drawn w p r first row is_there result old new first_is row_is there done =
    let inner : IsDone (over (After p.numbers)
    (draw_if is_there (put_pieces (text_pieces row.width w.placeholder_style w.placeholder.now)))) first result old new =
    done-in (After p.numbers) row result done row_is in
    let all : IsDone (over (Rows 0 1) (over (After p.numbers)
    (draw_if is_there (put_pieces (text_pieces row.width w.placeholder_style w.placeholder.now))))) r result old new =
    done-in (Rows 0 1) first result inner first_is in
    rw (row_is, first_is, there) at all

pub ruleset row_parts = (row-first, row-last, row-after)
