-- How many rows each line of a wrapped text takes: one or more, and one after the last line.
use Rattle.std.proofs.Common.{◌≡◌, ◌<◌, ◌≤◌, ℕ, zero, suc, ◌+◌, ◌==◌, Bool, true, false, if◌then◌else◌, List, [], ◌∷◌}
use Rattle.std.proofs.Common.{length, drop, refl, ap, ◌∙◌, cond, arith}
use Rattle.std.proofs.lemmas.{Bool.Decides.nat_tests, List.Sums.sum_by-append, List.drop_all}
use native.Mathlib.Nat.{zero-div}
use Rattle.unicode_segmentation.proofs.Computing.{unicode_segmentation}
use Rattle.text_area.specs.Extents.{is_feed}
use Rattle.text_area.specs.Lines.{feeds, nth_start, nth_line, first_line}
use Rattle.text_area.specs.Areas.{area_text, area_before, area_after}
use Rattle.widget_area.specs.declared.widget.TextAreaWidget.{TextAreaWidget}
use Rattle.widget_area.specs.Columns.{column_after_line}
use Rattle.widget_area.specs.Wraps.{rows_of_columns}
use Rattle.widget_area.specs.Windows.{cursor_row, cursor_column, column_after_rest, wrapped_rows}

pub wrapped_rows-some : (w : TextAreaWidget) (stride i : ℕ) → 0 < wrapped_rows w stride i
wrapped_rows-some w stride i = omega arith

-- the cursor's line is one of the text
pub cursor-within : (w : TextAreaWidget) → cursor_row w ≤ feeds (area_text w.text.now)
cursor-within w =
    let all : feeds (area_text w.text.now) ≡ feeds (area_before w.text.now) + feeds (area_after w.text.now) =
    sum_by-append (λ b. cond (is_feed b) 1 0) (area_before w.text.now) (area_after w.text.now) in
    omega (arith, all)

-- a line feed counts
feeds-first : (b : ℕ) (text : List ℕ) → feeds (b ∷ text) ≡ cond (is_feed b) 1 0 + feeds text
feeds-first b text = let all = sum_by-append (λ c. cond (is_feed c) 1 0) (b ∷ []) text in omega (arith, all)

-- after the last line there is none
start-past : (i : ℕ) (text : List ℕ) → feeds text < i → nth_start i text ≡ length text
start-past zero text lt = absurd (omega (arith, lt))
start-past (suc i) [] lt = refl
start-past (suc i) (b ∷ text) lt = by (is_feed b) refl (start-past i text) (start-past (suc i) text)
  where
    by : (t : Bool) → is_feed b ≡ t → (feeds text < i → nth_start i text ≡ length text)
        → (feeds text < suc i → nth_start (suc i) text ≡ length text)
        → suc (nth_start (if is_feed b then i else suc i) text) ≡ suc (length text)
    by true is next same =
        let one = ap (λ t. cond t 1 0 + feeds text) is in
        ap (λ t. suc (nth_start (if t then i else suc i) text)) is
        ∙ ap suc (next (omega (arith, lt, feeds-first b text, one)))
    by false is next same =
        let one = ap (λ t. cond t 1 0 + feeds text) is in
        ap (λ t. suc (nth_start (if t then i else suc i) text)) is
        ∙ ap suc (same (omega (arith, lt, feeds-first b text, one)))

none-first : first_line [] ≡ []
none-first = refl

line-past : (i : ℕ) (text : List ℕ) → feeds text < i → nth_line i text ≡ []
line-past i text lt =
    ap first_line (ap (λ n. drop n text) (start-past i text lt) ∙ drop_all (length text) text (omega arith)) ∙ none-first

no-columns : (tab : ℕ) → column_after_line tab [] ≡ 0
unfolding unicode_segmentation
no-columns tab = refl

pub wrapped_rows-past : (w : TextAreaWidget) (stride i : ℕ) → feeds (area_text w.text.now) + 1 ≤ i → wrapped_rows w stride i ≡ 1
wrapped_rows-past w stride i le =
    let other : (i == cursor_row w) ≡ false = grind (arith, nat_tests, le, cursor-within w) in
    ap (λ t. rows_of_columns stride (if t then column_after_rest w (cursor_column w)
    else column_after_line w.tab (nth_line i (area_text w.text.now)))) other
    ∙ ap (λ line. rows_of_columns stride (column_after_line w.tab line)) (line-past i (area_text w.text.now) (omega (arith, le)))
    ∙ ap (rows_of_columns stride) (no-columns w.tab)
    ∙ ap (λ n. n + 1) (zero-div stride)
