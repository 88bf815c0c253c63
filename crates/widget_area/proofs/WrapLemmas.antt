-- Rows of wrapped lines, as they are drawn.
use Rattle.std.proofs.Common.{◌≡◌, ℕ, zero, suc, ◌+◌, ◌-◌, ◌<◌, ◌≤◌, nat_le, nat_lt, true, false, List, [], ◌∷◌, length, refl, arith}
use Rattle.std.proofs.Common.{Result, Bool, ◌==◌, min}
use Rattle.std.proofs.lemmas.{Bool.Decides.nat_tests}
use Rattle.std.specs.declared.alloc.AllocError.{AllocError}
use Rattle.ratatui_core.specs.{Layout.Rect, Buffer.BufferData}
use Rattle.rtui_drawing.specs.Cuts.{cut_from}
use Rattle.rtui_drawing.specs.declared.cut.Cut.TheVariants.{After, Rows}
use Rattle.rtui_drawing.specs.Drawings.{nothing, over, ◌before◌, draw_if, put_style, DrawsAll, IsDone}
use Rattle.rtui_drawing.proofs.DrawingLemmas.{done-in}
use Rattle.text_area.specs.Lines.{feeds}
use Rattle.text_area.specs.Areas.{area_text}
use Rattle.widget_area.specs.declared.plan.Plan.{Plan}
use Rattle.widget_area.specs.declared.widget.TextAreaWidget.{TextAreaWidget}
use Rattle.widget_area.specs.Columns.{columns_of_grapheme, past}
use Rattle.widget_area.specs.TextAreas.{grapheme_drawing, number_drawing, wrapped_row, turned, row_after_line}
use Rattle.widget_area.specs.TextAreas.{row_style_drawing, first_number_drawing}
use Rattle.widget_area.specs.TextAreas.{wrapped_grapheme_drawing, wrapped_graphemes_drawing, wrapped_line_drawing, wrapped_lines_drawing}

-- a grapheme in its row
pub wrapped-drawn : {A : Type 0} (w : TextAreaWidget) (p q : Plan) (r line part : Rect) (begin column byte row : ℕ) (g : List ℕ)
    (result : Result A AllocError) (old new : BufferData)
    → row ≡ wrapped_row p begin column → p.above ≤ row → line ≡ cut_from (Rows (row - p.above) 1) r
    → part ≡ cut_from (After p.numbers) line → q ≡ turned p column
    → IsDone (grapheme_drawing w q part.width column byte g) part result old new
    → IsDone (wrapped_grapheme_drawing w p r.width begin column byte g) r result old new
wrapped-drawn w p q r line part begin column byte row g result old new row_is le line_is part_is q_is done =
    let test : nat_le p.above row ≡ true = grind (arith, nat_tests) in
    let inner : IsDone (over (After p.numbers) (grapheme_drawing w q part.width column byte g)) line result old new =
    done-in (After p.numbers) part result done part_is in
    let all : IsDone (draw_if (nat_le p.above row) (over (Rows (row - p.above) 1)
    (over (After p.numbers) (grapheme_drawing w q part.width column byte g)))) r result old new =
    rw test (done-in (Rows (row - p.above) 1) line result inner line_is) in
    rw (part_is, line_is, q_is, row_is) at all

-- above the view there is none
pub wrapped-hidden : (w : TextAreaWidget) (p : Plan) (width begin column byte row : ℕ) (g : List ℕ)
    → row ≡ wrapped_row p begin column → row < p.above → wrapped_grapheme_drawing w p width begin column byte g ≡ nothing
wrapped-hidden w p width begin column byte row g row_is lt =
    let test : nat_le p.above (wrapped_row p begin column) ≡ false = grind (arith, nat_tests) in rw test refl

-- the next grapheme
pub wrapped-next : (w : TextAreaWidget) (p : Plan) (r : Rect) (begin column byte : ℕ) (g : List ℕ) (gs left : List (List ℕ))
    → left ≡ g ∷ gs → wrapped_row p begin column - p.above < r.height
    → wrapped_graphemes_drawing w p r begin column byte left ≡ (wrapped_grapheme_drawing w p r.width begin column byte g
    before wrapped_graphemes_drawing w p r begin (past column (columns_of_grapheme w.tab column g)) (past byte (length g)) gs)
wrapped-next w p r begin column byte g gs left is lt =
    let test : nat_lt (wrapped_row p begin column - p.above) r.height ≡ true = grind (arith, nat_tests) in rw (is, test) refl

-- nothing is left after the last row
pub wrapped-end : (w : TextAreaWidget) (p : Plan) (r : Rect) (begin column byte : ℕ) (gs : List (List ℕ))
    → r.height ≤ wrapped_row p begin column - p.above → wrapped_graphemes_drawing w p r begin column byte gs ≡ nothing
wrapped-end w p r begin column byte [] le = refl
wrapped-end w p r begin column byte (g ∷ gs) le =
    let test : nat_lt (wrapped_row p begin column - p.above) r.height ≡ false = grind (arith, nat_tests) in rw test refl

-- the style of a line's rows
pub style-drawn : (w : TextAreaWidget) (p : Plan) (r part : Rect) (begin i y rows : ℕ) (is_lit : Bool) (old new : BufferData)
    → y ≡ begin - p.above → rows ≡ min (row_after_line w p begin i - p.above - y) r.height → is_lit ≡ (i == p.row)
    → part ≡ cut_from (Rows y rows) r → DrawsAll (draw_if is_lit (put_style w.cursor_line_style)) part old new
    → DrawsAll (row_style_drawing w p r begin i) r old new
style-drawn w p r part begin i y rows is_lit old new y_is rows_is lit part_is drawn =
    rw (part_is, rows_is, y_is, lit) at drawn

-- the number of a line, in its first row
pub number-shown : {A : Type 0} (w : TextAreaWidget) (p : Plan) (r row : Rect) (begin i : ℕ) (result : Result A AllocError)
    (old new : BufferData) → p.above ≤ begin → row ≡ cut_from (Rows (begin - p.above) 1) r
    → IsDone (number_drawing w p row.width i) row result old new
    → IsDone (first_number_drawing w p r.width begin i) r result old new
number-shown w p r row begin i result old new le row_is done =
    let test : nat_le p.above begin ≡ true = grind (arith, nat_tests) in
    let inner : IsDone (over (Rows (begin - p.above) 1) (number_drawing w p row.width i)) r result old new =
    done-in (Rows (begin - p.above) 1) row result done row_is in
    rw test (rw row_is at inner)

pub number-hidden : (w : TextAreaWidget) (p : Plan) (width begin i : ℕ) → begin < p.above
    → first_number_drawing w p width begin i ≡ nothing
number-hidden w p width begin i lt =
    let test : nat_le p.above begin ≡ false = grind (arith, nat_tests) in rw test refl

-- the next line
pub lines-next : (w : TextAreaWidget) (p : Plan) (r : Rect) (begin i k : ℕ) → k < r.height → i ≤ feeds (area_text w.text.now)
    → begin - p.above < r.height
    → wrapped_lines_drawing w p r begin i (r.height - k) ≡ (wrapped_line_drawing w p r begin i
    before wrapped_lines_drawing w p r (row_after_line w p begin i) (i + 1) (r.height - (k + 1)))
lines-next w p r begin i k lt le there =
    let more : r.height - k ≡ suc (r.height - (k + 1)) = omega arith in
    let one : nat_le i (feeds (area_text w.text.now)) ≡ true = grind (arith, nat_tests) in
    let two : nat_lt (begin - p.above) r.height ≡ true = grind (arith, nat_tests) in rw (more, one, two) refl

-- no line is left after the last one, none below the view, and none after so many
pub lines-none : (w : TextAreaWidget) (p : Plan) (r : Rect) (begin i n : ℕ) → feeds (area_text w.text.now) < i
    → wrapped_lines_drawing w p r begin i n ≡ nothing
lines-none w p r begin i zero lt = refl
lines-none w p r begin i (suc n) lt =
    let one : nat_le i (feeds (area_text w.text.now)) ≡ false = grind (arith, nat_tests) in rw one refl

pub lines-below : (w : TextAreaWidget) (p : Plan) (r : Rect) (begin i n : ℕ) → i ≤ feeds (area_text w.text.now)
    → r.height ≤ begin - p.above → wrapped_lines_drawing w p r begin i n ≡ nothing
lines-below w p r begin i zero within le = refl
lines-below w p r begin i (suc n) within le =
    let one : nat_le i (feeds (area_text w.text.now)) ≡ true = grind (arith, nat_tests) in
    let two : nat_lt (begin - p.above) r.height ≡ false = grind (arith, nat_tests) in rw (one, two) refl

pub lines-end : (w : TextAreaWidget) (p : Plan) (r : Rect) (begin i k : ℕ) → r.height ≤ k
    → wrapped_lines_drawing w p r begin i (r.height - k) ≡ nothing
lines-end w p r begin i k le = let none : r.height - k ≡ 0 = omega arith in rw none refl
