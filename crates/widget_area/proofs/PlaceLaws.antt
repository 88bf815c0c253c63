-- The cursor's place, and the row in which it is drawn.
use Rattle.std.proofs.Common.{◌≡◌, ℕ, zero, suc, ◌+◌, ◌-◌, ◌/◌, ◌<◌, ◌==◌, min, true, false, if◌then◌else◌, refl, arith, ap, sym, ◌∙◌}
use Rattle.std.proofs.lemmas.{Bool.Decides.nat_tests}
use Rattle.ratatui_core.specs.Layout.{Rect}
use Rattle.text_places.specs.Places.{IsInLine, text_place, is_before, places_after, rows_between, lines_rows}
use Rattle.text_places.proofs.PlaceLemmas.{there-in, view-in}
use Rattle.text_places.proofs.WalkLemmas.{walked, view-before, view-within, view-stays}
use Rattle.text_area.specs.Lines.{nth_line}
use Rattle.text_area.specs.Areas.{area_text}
use Rattle.widget_area.specs.declared.view.AreaView.{AreaView}
use Rattle.widget_area.specs.declared.plan.Plan.{Plan}
use Rattle.widget_area.specs.declared.widget.TextAreaWidget.{TextAreaWidget}
use Rattle.widget_area.specs.Columns.{past, column_after_line}
use Rattle.widget_area.specs.Wraps.{rows_of_columns}
use Rattle.widget_area.specs.Windows.{cursor_row, cursor_column, column_after_rest, end_column, wrapped_rows, cursor_place, wrapped_place}
use Rattle.widget_area.specs.Windows.{wrapped_plan}
use Rattle.widget_area.specs.TextAreas.{row_after_line, row_past}
use Rattle.widget_area.specs.PlaceRows.{wrapped_rows-some}

pub cursor-in : (w : TextAreaWidget) (stride : ℕ) → IsInLine (wrapped_rows w stride) (cursor_place w stride)
cursor-in w stride = there-in (wrapped_rows w stride) (wrapped_rows-some w stride) (text_place (cursor_row w) (cursor_column w / stride))

-- the cursor's line ends after both its parts
pub cursor-is : (w : TextAreaWidget) (stride row column rows : ℕ) → row ≡ cursor_row w → column ≡ cursor_column w
    → rows ≡ rows_of_columns stride (column_after_rest w column)
    → text_place row (min (column / stride) (rows - 1)) ≡ cursor_place w stride
cursor-is w stride row column rows row_is column_is rows_is =
    let here : (cursor_row w == cursor_row w) ≡ true = grind (arith, nat_tests) in
    let all : rows ≡ wrapped_rows w stride (cursor_row w) =
    rows_is ∙ ap (λ c. rows_of_columns stride (column_after_rest w c)) column_is
    ∙ sym (ap (λ t. rows_of_columns stride (if t then column_after_rest w (cursor_column w)
    else column_after_line w.tab (nth_line (cursor_row w) (area_text w.text.now)))) here) in
    ap (λ n. text_place row (min (column / stride) (n - 1))) all
    ∙ ap (λ c. text_place row (min (c / stride) (wrapped_rows w stride (cursor_row w) - 1))) column_is
    ∙ ap (λ n. text_place n (min (cursor_column w / stride) (wrapped_rows w stride (cursor_row w) - 1))) row_is

pub stays : (w : TextAreaWidget) (v : AreaView) (stride height : ℕ)
    → IsInLine (wrapped_rows w stride) (text_place v.top v.row)
    → is_before (cursor_place w stride) (text_place v.top v.row) ≡ false
    → rows_between (wrapped_rows w stride) (text_place v.top v.row) (cursor_place w stride) < height
    → wrapped_place w v stride height ≡ text_place v.top v.row
stays w v stride height in_line before lt =
    view-stays (wrapped_rows w stride) (text_place v.top v.row) (cursor_place w stride) height (wrapped_rows-some w stride) in_line
    (cursor-in w stride) before lt

module _ (w : TextAreaWidget) (v : AreaView) (r : Rect) where
  abbrev plan : Plan
  plan = wrapped_plan w v r

  abbrev rows : ℕ → ℕ
  rows = wrapped_rows w plan.stride

  not-after : is_before (cursor_place w plan.stride) (wrapped_place w v plan.stride r.height) ≡ false
  not-after =
      view-before rows (text_place v.top v.row) (cursor_place w plan.stride) r.height (wrapped_rows-some w plan.stride)
      (cursor-in w plan.stride)

  pub in-view : places_after rows plan.y (text_place plan.top plan.above) ≡ cursor_place w plan.stride
  in-view =
      walked rows (wrapped_place w v plan.stride r.height) (cursor_place w plan.stride) (wrapped_rows-some w plan.stride)
      (view-in rows (wrapped_rows-some w plan.stride) (text_place v.top v.row) (cursor_place w plan.stride) r.height
      (cursor-in w plan.stride)) (cursor-in w plan.stride) not-after

  pub within : 0 < r.height → plan.y < r.height
  within some =
      view-within rows (text_place v.top v.row) (cursor_place w plan.stride) r.height (wrapped_rows-some w plan.stride)
      (cursor-in w plan.stride) some

-- rows are drawn as they are counted
pub row-counted : (w : TextAreaWidget) (p : Plan) (begin i n : ℕ) → p.row ≡ cursor_row w → p.column ≡ cursor_column w
    → begin + lines_rows (wrapped_rows w p.stride) i n < 18446744073709551615
    → row_past w p begin i n ≡ begin + lines_rows (wrapped_rows w p.stride) i n
row-counted w p begin i zero row column lt = omega arith
row-counted w p begin i (suc n) row column lt =
    let same : rows_of_columns p.stride (end_column w p.row p.column i) ≡ wrapped_rows w p.stride i =
    ap (λ k. rows_of_columns p.stride (end_column w k p.column i)) row
    ∙ ap (λ k. rows_of_columns p.stride (end_column w (cursor_row w) k i)) column in
    let next : row_after_line w p begin i ≡ begin + wrapped_rows w p.stride i = omega (arith, same, lt) in
    let rest = row-counted w p (row_after_line w p begin i) (i + 1) n row column (omega (arith, next, lt)) in
    omega (arith, next, rest)

pub cursor-shown : (w : TextAreaWidget) (v : AreaView) (r : Rect) → let p = wrapped_plan w v r in
    lines_rows (wrapped_rows w p.stride) p.top (p.row - p.top) + (cursor_place w p.stride).row < 18446744073709551615
    → past (row_past w p 0 p.top (p.row - p.top)) (cursor_place w p.stride).row - p.above ≡ p.y
cursor-shown w v r lt =
    let p = wrapped_plan w v r in
    let all = row-counted w p 0 p.top (p.row - p.top) refl refl (omega (arith, lt)) in
    omega (arith, lt, all)
