-- A table on an area that is ready leaves it apart, with wide graphemes, too.
use Rattle.std.proofs.Common.{◌≡◌, ℕ, zero, suc, ◌+◌, ◌-◌, ◌<◌, ◌≤◌, ◌⊎◌, ⊎_elim, inl, inr, ◌==◌, min, not, nat_lt, Bool, true, false}
use Rattle.std.proofs.Common.{if◌then◌else◌, List, [], ◌∷◌, All, Option, Some, None, IfSome, is_some, length, drop, refl, sym, ap}
use Rattle.std.proofs.Common.{subst, arith, slice_get, unwrap_or, nat_le}
use Rattle.std.specs.Option.{option_or}
use Rattle.std.proofs.lemmas.List.Elements.{All-nil, All-cons, All-head, All-tail, All-drop}
use Rattle.std.proofs.lemmas.Bool.Decides.{nat_tests}
use Rattle.ratatui_core.specs.Layout.{Rect, Position, HasPosition, IsInside, intersected, inner, right_edge}
use Rattle.ratatui_core.specs.{Style.Style, Text.TextData, Widgets.ChangesWithin, Buffer.BufferData}
use Rattle.ratatui_core.specs.declared.layout.Direction.TheVariants.{Horizontal}
use Rattle.rtui_split.specs.Cut.{InOrder}
use Rattle.widget_boxes.specs.{Framed.inner_if, Boxes.IsNarrowBox, Highlights.IsHighlighted, Titles.DoesIf, Titles.InTurn}
use Rattle.widget_boxes.specs.Apart.{StandsApart, IsReadyIn, IsShowableText}
use Rattle.widget_boxes.proofs.ApartLemmas.{ready-apart, ready-styled, ready-inside, ready-beside, ready-lit, apart-around}
use Rattle.widget_boxes.proofs.ApartLemmas.{text-apart, lit-apart}
use Rattle.widget_boxes.proofs.ApartBoxLemmas.{frame-apart, clip-in}
use Rattle.rtui_drawing.specs.{Cuts.cut_from, Drawings.DrawsAll, Drawings.over}
use Rattle.rtui_drawing.specs.declared.cut.Cut.TheVariants.{First, Within}
use Rattle.rtui_drawing.proofs.DrawingLemmas.{cut-inside, draws-within}
use Rattle.widget_list.specs.Items.{is_selected_at}
use Rattle.widget_table.specs.{declared.table.Table.Table as TableData, declared.cell.Cell.Cell, declared.row.Row.Row}
use Rattle.widget_table.specs.{declared.state.TableState.TableState}
use Rattle.widget_table.specs.Rows.{PlacedRow, stacked_rows, rows_area, footer_area, cells_area, below, full_height, height_if}
use Rattle.widget_table.specs.Tables.{styled_text, cells_drawing, symbol_drawing, symbol_if, row_drawing, rows_drawing}
use Rattle.widget_table.specs.Tables.{outer_drawing, area_if, selected_row_area, selected_column, placed_rows, symbol_columns}
use Rattle.widget_table.specs.Tables.{without_columns}
use Rattle.widget_table.specs.Tables.{Highlights, ShowsBody, ShowsTableParts, ShowsTable, RendersTable}
use Rattle.widget_table.specs.Tables.{HasShowableCells, HasShowableRows}
use Rattle.widget_table.proofs.BodyLemmas.{parts-within}
use Rattle.widget_table.proofs.ApartPartLemmas.{styled-apart, highlighted-apart, beside-apart, HasColumns, rows-apart}

clip-other : (a b : Rect) → IsInside (intersected a b) b
clip-other a b p h = let l = h.left in let e = h.right in let t = h.top in let d = h.bottom in
    record { left = omega arith; right = omega arith; top = omega arith; bottom = omega arith }

-- ---- an area, one of its columns, and what of it is still free

record Stands (r c free : Rect) (s : BufferData) : Type 0 where
  whole : StandsApart r s
  column : StandsApart c s
  ready : IsReadyIn free s

stands-next : (r c free q next : Rect) (old new : BufferData) → Stands r c free old → IsInside free r → IsInside q free
    → IsInside next free → ((p : Position) → HasPosition next p → HasPosition q p → ⊥) → ChangesWithin q old new
    → StandsApart q new → StandsApart c new → Stands r c next new
stands-next r c free q next old new was free_in q_in next_in apart within here column = record {
  whole = apart-around r q old new (λ p h. free_in p (q_in p h)) was.whole within here;
  column = column;
  ready = ready-beside free q next old new was.ready within here q_in next_in apart;
}

stands-less : (r c free next : Rect) (s : BufferData) → IsInside next free → Stands r c free s → Stands r c next s
stands-less r c free next s inside was = record {
  whole = was.whole;
  column = was.column;
  ready = ready-inside free next s inside was.ready;
}

stands-lit : (r c free q : Rect) (style : Style) (old new : BufferData) → StandsApart q old → IsHighlighted q style old new
    → Stands r c free old → Stands r c free new
stands-lit r c free q style old new apart is was =
    let lit = lit-apart style q old new is apart in record {
      whole = highlighted-apart r q style old new is was.whole lit.settled;
      column = highlighted-apart c q style old new is was.column lit.settled;
      ready = ready-lit style q free old new is apart was.ready;
    }

-- a text in a style
text-stands : (style : Style) (text : TextData) (q : Rect) (old new : BufferData) → IsShowableText text → IsReadyIn q old
    → DrawsAll (styled_text style text) q old new → StandsApart q new
text-stands style text q old new shows ready is = text-apart text q is.0 new shows (ready-styled q style old is.0 ready is.1) is.2

-- ---- a row

-- an area from a column on
abbrev from_column : ℕ → Rect → Rect
from_column x r = record r { x = x; width = r.x + r.width - x }

column-in : (x : ℕ) (w : Rect) → min w.x 65535 ≤ x → IsInside (from_column x w) w
column-in x w le p h = let l = h.left in let e = h.right in let t = h.top in let b = h.bottom in
    record { left = omega arith; right = omega arith; top = t; bottom = b }

module _ (r c : Rect) where
  -- a part lies in the column, where the area has it, or beside it
  abbrev Meets : Rect → Type 0
  Meets q = ((p : Position) → HasPosition q p → HasPosition r p → HasPosition c p)
      ⊎ ((p : Position) → HasPosition q p → HasPosition c p → ⊥)

  column-kept : (q part : Rect) (old new : BufferData) → Meets q → IsInside part q → IsInside part r → StandsApart c old
      → ChangesWithin part old new → StandsApart part new → StandsApart c new
  column-kept q part old new meets in_q in_r was within here =
      ⊎_elim
      (λ (inside : (p : Position) → HasPosition q p → HasPosition r p → HasPosition c p).
      apart-around c part old new (λ p h. inside p (in_q p h) (in_r p h)) was within here)
      (λ (off : (p : Position) → HasPosition q p → HasPosition c p → ⊥).
      beside-apart c part old new was within here (λ p in_c in_part. off p (in_q p in_part) in_c))
      meets

  module _ (w : Rect) (inside : IsInside w r) where
    abbrev IsShown : Cell → Type 0
    IsShown cell = IsShowableText cell.content

    cells-stand : (x end : ℕ) (columns : List Rect) (cells : List Cell) (old new : BufferData) → min w.x 65535 ≤ x
        → InOrder Horizontal x end columns → All Meets columns → All IsShown cells → Stands w c (from_column x w) old
        → DrawsAll (cells_drawing columns cells) w old new → StandsApart w new × StandsApart c new
    cells-stand x end [] cells old new le order meets shows was same = rw same (was.whole, was.column)
    cells-stand x end (column ∷ columns) [] old new le order meets shows was same = rw same (was.whole, was.column)
    cells-stand x end (column ∷ columns) (cell ∷ cells) old new le order meets shows was is =
        let at = order.0 in
        let part = intersected w column in
        let next = from_column (column.x + column.width) w in
        let within = draws-within (styled_text cell.style cell.content) part old is.0 is.1 in
        let part_in : IsInside part (from_column x w) = λ p h.
        let l = h.left in let e = h.right in let t = h.top in let b = h.bottom in
        record { left = omega arith; right = omega arith; top = omega arith; bottom = omega arith } in
        let here = text-stands cell.style cell.content part old is.0 (All-head IsShown cell cells shows)
        (ready-inside (from_column x w) part old part_in was.ready) is.1 in
        cells-stand (column.x + column.width) end columns cells is.0 new (omega arith) order.1 (All-tail Meets column columns meets)
        (All-tail IsShown cell cells shows)
        (stands-next w c (from_column x w) part next old is.0 was (column-in x w le) part_in
        (λ p h. let l = h.left in let e = h.right in let t = h.top in let b = h.bottom in
        record { left = omega arith; right = omega arith; top = t; bottom = b })
        (λ p a b. let l = a.left in let e = b.right in omega arith) within here
        (column-kept column part old is.0 (All-head Meets column columns meets) (clip-other w column)
        (λ p h. inside p (clip-in w column p h)) was.column within here)) is.2

    -- the symbol stands left of the columns
    module _ (x : ℕ) (left : Meets (record r { width = x - r.x })) (from : r.x ≤ w.x) where
      symbol-stands : (o : Option TextData) (n : ℕ) (style : Style) (old new : BufferData) → IfSome o IsShowableText
          → min (w.x + n) 65535 ≤ x → Stands w c w old → DrawsAll (symbol_drawing o n style) w old new
          → Stands w c (from_column x w) new
      symbol-stands None n style old new shows le was same =
          rw same (stands-less w c w (from_column x w) old (column-in x w (omega arith)) was)
      symbol-stands (Some text) n style old new shows le was is = by-test (nat_lt 0 n) refl
        where
          by-test : (t : Bool) → t ≡ nat_lt 0 n → Stands w c (from_column x w) new
          by-test false test =
              let same : new ≡ old = rw (← test) at is in
              rw same (stands-less w c w (from_column x w) old (column-in x w (omega arith)) was)
          by-test true test =
              let part = cut_from (First n) w in
              let drawn : DrawsAll (styled_text style text) part old new = rw (← test) at is in
              let within = draws-within (styled_text style text) part old new drawn in
              let part_in = cut-inside (First n) w in
              let here = text-stands style text part old new shows (ready-inside w part old part_in was.ready) drawn in
              stands-next w c w part (from_column x w) old new was (λ p h. h) part_in (column-in x w (omega arith))
              (λ p a b. let l = a.left in let e = b.right in omega arith) within here
              (column-kept (record r { width = x - r.x }) part old new left
              (λ p h. let in_r = inside p (part_in p h) in let l = in_r.left in let t = in_r.top in let b = in_r.bottom in
              let e = h.right in record { left = l; right = omega arith; top = t; bottom = b })
              (λ p h. inside p (part_in p h)) was.column within here)

      row-stands : (o : Option TextData) (n end : ℕ) (columns : List Rect) (row : Row) (old new : BufferData)
          → IfSome o IsShowableText → min (w.x + n) 65535 ≤ x → InOrder Horizontal x end columns → All Meets columns
          → HasShowableCells row → IsReadyIn w old → StandsApart c old → DrawsAll (row_drawing o n columns row) w old new
          → StandsApart w new × StandsApart c new
      row-stands o n end columns row old new symbol le order meets cells ready was is =
          let laid = is.0 in
          let plain = ready-styled w row.style old laid ready is.1 in
          let first : Stands w c w laid = record {
            whole = ready-apart w laid plain;
            column = styled-apart c w row.style old laid is.1 was plain.settled;
            ready = plain;
          } in
          let rest = is.2 in
          cells-stand x end columns row.cells.items rest.0 new (omega arith) order meets cells
          (symbol-stands o n row.style laid rest.0 symbol le first rest.1) rest.2

-- ---- rows one below the other

-- an area from a row on
abbrev from_row : ℕ → Rect → Rect
from_row y r = record r { y = y; height = r.y + r.height - y }

-- a place in an area that has all its columns
record IsPlace (r place : Rect) : Type 0 where
  x : place.x ≡ r.x
  width : place.width ≡ r.width
  top : r.y ≤ place.y
  bottom : place.y + place.height ≤ r.y + r.height

symbol-if : (is_selected : Bool) (o : Option TextData) → IfSome o IsShowableText → IfSome (symbol_if is_selected o) IsShowableText
symbol-if true o shows = shows
symbol-if false o shows = tt

module _ (r c : Rect) (x end n : ℕ) (columns : List Rect) (order : InOrder Horizontal x end columns) (meets : All (Meets r c) columns)
    (left : Meets r c (record r { width = x - r.x })) (le : min (r.x + n) 65535 ≤ x) where
  -- a row at the top of a place
  place-stands : (o : Option TextData) (m : ℕ) (row : Row) (place : Rect) (y : ℕ) (old new : BufferData)
      → IfSome o IsShowableText → m ≤ n → HasShowableCells row → IsPlace r place
      → place.y + min (full_height row) place.height ≤ y → Stands r c (from_row place.y r) old
      → DrawsAll (over (Within (cells_area row place)) (row_drawing o m columns row)) r old new → Stands r c (from_row y r) new
  place-stands o m row place y old new symbol few cells is_place to was is =
      let part = intersected r (cells_area row place) in
      let px = is_place.x in let pw = is_place.width in let pt = is_place.top in let pb = is_place.bottom in
      let start : r.x ≤ part.x = omega arith in
      let ends : min (part.x + m) 65535 ≤ x = omega arith in
      let inside = clip-in r (cells_area row place) in
      let free_in : IsInside (from_row place.y r) r = λ p h.
      let l = h.left in let e = h.right in let t = h.top in let b = h.bottom in
      record { left = l; right = e; top = omega arith; bottom = omega arith } in
      let part_in : IsInside part (from_row place.y r) = λ p h.
      let l = h.left in let e = h.right in let t = h.top in let b = h.bottom in
      record { left = omega arith; right = omega arith; top = omega arith; bottom = omega arith } in
      let within = draws-within (row_drawing o m columns row) part old new is in
      let drawn = row-stands r c part inside x left start o m end columns row old new symbol ends order meets cells
      (ready-inside (from_row place.y r) part old part_in was.ready) was.column is in
      stands-next r c (from_row place.y r) part (from_row y r) old new was free_in part_in
      (λ p h. let l = h.left in let e = h.right in let t = h.top in let b = h.bottom in
      record { left = l; right = e; top = omega arith; bottom = omega arith })
      (λ p a b. let t = a.top in let e = b.bottom in omega arith) within drawn.0 drawn.1

  -- the header or the footer
  outer-stands : (o : Option Row) (place : Rect) (y : ℕ) (old new : BufferData) → IfSome o HasShowableCells → IsPlace r place
      → place.y + min (height_if o) place.height ≤ y → Stands r c (from_row place.y r) old
      → DrawsAll (outer_drawing columns o place) r old new → Stands r c (from_row y r) new
  outer-stands None place y old new shows is_place to was same =
      rw same (stands-less r c (from_row place.y r) (from_row y r) old
      (λ p h. let l = h.left in let e = h.right in let t = h.top in let b = h.bottom in
      record { left = l; right = e; top = omega arith; bottom = omega arith }) was)
  outer-stands (Some row) place y old new shows is_place to was is =
      place-stands None 0 row place y old new tt (omega arith) shows is_place to was is

  module _ (t : TableData) (symbol : IfSome t.highlight_symbol IsShowableText) (selected : Option ℕ) (foot : ℕ) where
    rows-stand : (k : ℕ) (place : Rect) (rows : List Row) (old new : BufferData) → All HasShowableCells rows → IsPlace r place
        → place.y + place.height ≤ foot → Stands r c (from_row place.y r) old
        → DrawsAll (rows_drawing t selected n columns (stacked_rows k place rows)) r old new → Stands r c (from_row foot r) new
    rows-stand k place [] old new all is_place to was same = rw same (stands-less r c (from_row place.y r) (from_row foot r) old
        (λ p h. let l = h.left in let e = h.right in let t = h.top in let b = h.bottom in
        record { left = l; right = e; top = omega arith; bottom = omega arith }) was)
    rows-stand k place (row ∷ rows) old new all is_place to was is =
        let px = is_place.x in let pw = is_place.width in let pt = is_place.top in let pb = is_place.bottom in
        by-test (place.height == 0)
        (λ mid stands more. rows-stand (k + 1) (below (full_height row) place) rows mid new (All-tail HasShowableCells row rows all)
        (record { x = px; width = pw; top = omega arith; bottom = omega arith }) (omega arith) stands more) is
      where
        by-test : (stop : Bool) → ((mid : BufferData) → Stands r c (from_row (below (full_height row) place).y r) mid
            → DrawsAll (rows_drawing t selected n columns (stacked_rows (k + 1) (below (full_height row) place) rows)) r mid new
            → Stands r c (from_row foot r) new)
            → DrawsAll (rows_drawing t selected n columns (if stop then [] else record {
              row = row;
              number = k;
              area = cells_area row place;
            } ∷ stacked_rows (k + 1) (below (full_height row) place) rows)) r old new → Stands r c (from_row foot r) new
        by-test true rest same = rw same (stands-less r c (from_row place.y r) (from_row foot r) old
            (λ p h. let l = h.left in let e = h.right in let t = h.top in let b = h.bottom in
            record { left = l; right = e; top = omega arith; bottom = omega arith }) was)
        by-test false rest is =
            rest is.0
            (place-stands (symbol_if (is_selected_at selected k) t.highlight_symbol) n row place (below (full_height row) place).y old
            is.0 (symbol-if (is_selected_at selected k) t.highlight_symbol symbol) (omega arith)
            (All-head HasShowableCells row rows all) is_place (omega arith) was is.1) is.2

-- ---- the columns of a table are in order

columns-from : (x end : ℕ) (columns : List Rect) → InOrder Horizontal x end columns → All (λ q. x ≤ q.x) columns
columns-from x end [] order = All-nil (λ (q : Rect). x ≤ q.x)
columns-from x end (column ∷ columns) order =
    All-cons (λ (q : Rect). x ≤ q.x) column columns order.0
    (λ k d lt. let at = order.0 in let le = columns-from (column.x + column.width) end columns order.1 k d lt in omega arith)

from-get : (x k : ℕ) (columns : List Rect) → All (λ q. x ≤ q.x) columns → IfSome (slice_get columns k) (λ q. x ≤ q.x)
from-get x k [] all = tt
from-get x zero (column ∷ columns) all = All-head (λ (q : Rect). x ≤ q.x) column columns all
from-get x (suc k) (column ∷ columns) all = from-get x k columns (All-tail (λ (q : Rect). x ≤ q.x) column columns all)

selected-from : (x end k : ℕ) (columns : List Rect) (q : Rect) → InOrder Horizontal x end columns → slice_get columns k ≡ Some q
    → x ≤ q.x
selected-from x end k columns q order is =
    subst (λ o. IfSome o (λ (q : Rect). x ≤ q.x)) is (from-get x k columns (columns-from x end columns order))

-- the part of an area that is highlighted as a column
abbrev column_area : Rect → Option Rect → Rect
column_area r None = r
column_area r (Some q) = intersected r q

both-in : (r q : Rect) (p : Position) → HasPosition q p → HasPosition r p → HasPosition (intersected r q) p
both-in r q p a b =
    let l1 = a.left in let e1 = a.right in let t1 = a.top in let b1 = a.bottom in
    let l2 = b.left in let e2 = b.right in let t2 = b.top in let b2 = b.bottom in
    record { left = omega arith; right = omega arith; top = omega arith; bottom = omega arith }

order-meets : (r q : Rect) (x end k : ℕ) (columns : List Rect) → InOrder Horizontal x end columns → slice_get columns k ≡ Some q
    → All (Meets r (intersected r q)) columns
order-meets r q x end k [] order is = All-nil (Meets r (intersected r q))
order-meets r q x end zero (column ∷ columns) order is =
    let e : column ≡ q = ap (λ o. unwrap_or o column) is in
    All-cons (Meets r (intersected r q)) column columns
    (inl (λ p here in_r. both-in r q p (subst (λ a. HasPosition a p) e here) in_r))
    (λ k d lt. let le = columns-from (column.x + column.width) end columns order.1 k d lt in
    inr (λ p here there. let a = here.left in
    let b = (subst (λ a. HasPosition a p) (sym e) (clip-other r q p there)).right in omega arith))
order-meets r q x end (suc k) (column ∷ columns) order is =
    let le = selected-from (column.x + column.width) end k columns q order.1 is in
    All-cons (Meets r (intersected r q)) column columns
    (inr (λ p here there. let a = here.right in let b = (clip-other r q p there).left in omega arith))
    (order-meets r q (column.x + column.width) end k columns order.1 is)

module _ (r : Rect) (x end : ℕ) (columns : List Rect) (order : InOrder Horizontal x end columns) where
  column-meets : (o : Option Rect) (k : ℕ) → slice_get columns k ≡ o → All (Meets r (column_area r o)) columns
  column-meets None k is = λ k d lt. inl (λ p here in_r. in_r)
  column-meets (Some q) k is = order-meets r q x end k columns order is

  selected-meets : (selected : Option ℕ) → All (Meets r (column_area r (selected_column selected columns))) columns
  selected-meets None = λ k d lt. inl (λ p here in_r. in_r)
  selected-meets (Some k) = column-meets (slice_get columns k) k refl

  column-left : (o : Option Rect) (k : ℕ) → slice_get columns k ≡ o → Meets r (column_area r o) (record r { width = x - r.x })
  column-left None k is = inl (λ p here in_r. in_r)
  column-left (Some q) k is = inr (λ p here there.
      let le = selected-from x end k columns q order is in
      let l = here.left in let e = here.right in let b = (clip-other r q p there).left in omega arith)

  selected-left : (selected : Option ℕ) → Meets r (column_area r (selected_column selected columns)) (record r { width = x - r.x })
  selected-left None = inl (λ p here in_r. in_r)
  selected-left (Some k) = column-left (slice_get columns k) k refl

-- ---- highlights

-- a part has as many columns as an area, from the same one on
record HasWidth (r q : Rect) : Type 0 where
  x : q.x ≡ r.x
  width : q.width ≡ r.width

either-wide : (r a : Rect) (t : Bool) (o : Option Rect) → HasWidth r a → IfSome o (HasWidth r)
    → IfSome (option_or (area_if t a) o) (HasWidth r)
either-wide r a true o here rest = here
either-wide r a false o here rest = rest

selected-wide : (selected : Option ℕ) (r : Rect) (k : ℕ) (place : Rect) (rows : List Row) → HasWidth r place
    → IfSome (selected_row_area selected (stacked_rows k place rows)) (HasWidth r)
selected-wide selected r k place [] wide = tt
selected-wide selected r k place (row ∷ rows) wide =
    by-test (place.height == 0)
    (selected-wide selected r (k + 1) (below (full_height row) place) rows (record { x = wide.x; width = wide.width }))
  where
    by-test : (stop : Bool)
        → IfSome (selected_row_area selected (stacked_rows (k + 1) (below (full_height row) place) rows)) (HasWidth r)
        → IfSome (selected_row_area selected (if stop then [] else record {
          row = row;
          number = k;
          area = cells_area row place;
        } ∷ stacked_rows (k + 1) (below (full_height row) place) rows)) (HasWidth r)
    by-test true rest = tt
    by-test false rest =
        either-wide r (cells_area row place) (is_selected_at selected k)
        (selected_row_area selected (stacked_rows (k + 1) (below (full_height row) place) rows))
        (record { x = wide.x; width = wide.width }) rest

row-columns : (r row : Rect) → HasWidth r row → HasColumns r (intersected r row)
row-columns r row wide = let x = wide.x in let w = wide.width in record {
  inside = clip-in r row;
  left = λ p h. omega arith;
  right = λ p h. let l = h.left in let e = h.right in omega arith;
}

-- where an area that two have ends, if it has a position
ends-at : (x end p : ℕ) → x ≤ p → p < min (x + (end - x)) 65535 → x + (end - x) ≡ end
ends-at x end p from to = omega arith

same-end : (r s q c_end a_end end : ℕ) → s ≡ r → c_end ≡ min r q → a_end ≡ min r s → end ≡ min (min a_end 65535) q
    → min c_end 65535 ≤ end
same-end r s q c_end a_end end same at_c at_a at_end = omega arith

column-columns : (r row q : Rect) → HasWidth r row → HasColumns (intersected r q) (intersected (intersected r row) q)
column-columns r row q wide =
    let inside : IsInside (intersected (intersected r row) q) (intersected r q) = λ p h.
    both-in r q p (clip-other (intersected r row) q p h) (clip-in r row p (clip-in (intersected r row) q p h)) in
    record {
      inside = inside;
      left = λ p h. let x = wide.x in omega arith;
      right = λ p h.
          let a = clip-in (intersected r row) q p h in let c = inside p h in
          let same : right_edge row ≡ right_edge r = rw (wide.x, wide.width) refl in
          same-end (right_edge r) (right_edge row) (right_edge q) _ _ _ same
          (ends-at (intersected r q).x (min (right_edge r) (right_edge q)) p.x c.left c.right)
          (ends-at (intersected r row).x (min (right_edge r) (right_edge row)) p.x a.left a.right)
          (ends-at (intersected (intersected r row) q).x (min (right_edge (intersected r row)) (right_edge q)) p.x h.left h.right);
    }

module _ (t : TableData) (r free place : Rect) (place_wide : HasWidth r place) where
  highlights-stand : (row column : Option Rect) (old new : BufferData) → IfSome row (HasWidth r)
      → Stands r (column_area r column) free old → Highlights t row column place r old new
      → Stands r (column_area r column) free new
  highlights-stand None None old new wide was same = rw same was
  highlights-stand (Some row) None old new wide was is =
      stands-lit r r free (intersected r row) t.row_highlight_style old new
      (rows-apart r (intersected r row) old (row-columns r row wide) was.whole) is was
  highlights-stand None (Some q) old new wide was is =
      let part = intersected (intersected r place) q in
      stands-lit r (intersected r q) free part t.column_highlight_style old new
      (rows-apart (intersected r q) part old (column-columns r place q place_wide) was.column) is was
  highlights-stand (Some row) (Some q) old new wide was is =
      let c = intersected r q in
      let part = intersected (intersected r place) q in
      let both = intersected (intersected r row) q in
      let one = stands-lit r c free (intersected r row) t.row_highlight_style old is.between
      (rows-apart r (intersected r row) old (row-columns r row wide) was.whole) is.first was in
      let more = is.second in
      let two = stands-lit r c free part t.column_highlight_style is.between more.between
      (rows-apart c part is.between (column-columns r place q place_wide) one.column) more.first one in
      stands-lit r c free both t.cell_highlight_style more.between new
      (rows-apart c both more.between (column-columns r row q wide) two.column) more.second two

-- ---- the table

-- where the columns begin
no-margin : (q : Rect) → min q.x 65535 ≤ (inner q (record { horizontal = 0; vertical = 0 })).x
no-margin q =
    let w : nat_le 0 q.width ≡ true = grind (arith, nat_tests) in
    let h : nat_le 0 q.height ≡ true = grind (arith, nat_tests) in
    rw (w, h) (omega arith)

column-inside : (r : Rect) (o : Option Rect) → IsInside (column_area r o) r
column-inside r None p h = h
column-inside r (Some q) p h = clip-in r q p h

module _ (t : TableData) (u : TableState) (columns : List Rect) (r : Rect) (x end n : ℕ)
    (order : InOrder Horizontal x end columns) (le : min (r.x + n) 65535 ≤ x) (shows : HasShowableRows t) where
  abbrev column : Option Rect
  column = selected_column u.selected_column columns

  abbrev c : Rect
  c = column_area r column

  meets : All (Meets r c) columns
  meets = selected-meets r x end columns order u.selected_column

  left : Meets r c (record r { width = x - r.x })
  left = selected-left r x end columns order u.selected_column

  -- the rows, and the highlights over them
  module _ (place : Rect) (foot : ℕ) (is_place : IsPlace r place) (fits : place.y + place.height ≤ foot) (old new : BufferData)
      (was : Stands r c (from_row place.y r) old) where
    abbrev rows : List PlacedRow
    rows = placed_rows t u place

    some-stand : InTurn (DrawsAll (rows_drawing t u.selected n columns rows) r)
        (Highlights t (selected_row_area u.selected rows) column place r) old new → Stands r c (from_row foot r) new
    some-stand is =
        let wide : HasWidth r place = record { x = is_place.x; width = is_place.width } in
        let drawn = rows-stand r c x end n columns order meets left le t shows.symbol u.selected foot u.offset place
        (drop u.offset t.rows.items) old is.between (All-drop HasShowableCells u.offset t.rows.items shows.rows) is_place fits was
        is.first in
        highlights-stand t r (from_row foot r) place wide (selected_row_area u.selected rows) column is.between new
        (selected-wide u.selected r u.offset place (drop u.offset t.rows.items) wide) drawn is.second

    body-stands : ShowsBody t u n columns place r old new → Stands r c (from_row foot r) new
    body-stands = by-test (not (length t.rows.items == 0))
      where
        by-test : (some : Bool) → DoesIf some (InTurn (DrawsAll (rows_drawing t u.selected n columns rows) r)
            (Highlights t (selected_row_area u.selected rows) column place r)) old new → Stands r c (from_row foot r) new
        by-test true is = some-stand is
        by-test false same = rw same (stands-less r c (from_row place.y r) (from_row foot r) old
            (λ p h. let l = h.left in let e = h.right in let t = h.top in let b = h.bottom in
            record { left = l; right = e; top = omega arith; bottom = omega arith }) was)

  abbrev body : Rect
  body = rows_area t.header t.footer r

  abbrev foot_place : Rect
  foot_place = footer_area t.header t.footer r

  table-stands : (old new : BufferData) → n ≡ symbol_columns t (is_some u.selected) r → IsReadyIn r old
      → ShowsTableParts t u columns r old new → StandsApart r new
  table-stands old new e ready is =
      let first : Stands r c (from_row r.y r) old = record {
        whole = ready-apart r old ready;
        column = ready-apart c old (ready-inside r c old (column-inside r column) ready);
        ready = ready-inside r (from_row r.y r) old (λ p h. let l = h.left in let e = h.right in let t = h.top in let b = h.bottom in
            record { left = l; right = e; top = t; bottom = omega arith }) ready;
      } in
      let headed = outer-stands r c x end n columns order meets left le t.header r body.y old is.headed shows.header
      (record { x = refl; width = refl; top = omega arith; bottom = omega arith }) (omega arith) first is.header in
      let filled = body-stands body foot_place.y (record { x = refl; width = refl; top = omega arith; bottom = omega arith })
      (omega arith) is.headed is.filled headed (rw (← e) at is.body) in
      (outer-stands r c x end n columns order meets left le t.footer foot_place (foot_place.y + foot_place.height) is.filled new
      shows.footer (record { x = refl; width = refl; top = omega arith; bottom = omega arith }) (omega arith) filled is.footer).whole

pub table-apart : (t : TableData) (s u : TableState) (area : Rect) (old new : BufferData) → IfSome t.block IsNarrowBox
    → HasShowableRows t → IsReadyIn area old → RendersTable t s u area old new → StandsApart area new
table-apart t s u area old new box shows ready is =
    let r = inner_if t.block (intersected area old.area) in
    frame-apart t.style t.block (ShowsTable t) s u area old new box ready (λ framed inside shown.
    let n = symbol_columns t (is_some u.selected) r in
    let q = without_columns n r in (
      parts-within t u shown.columns r framed new shown.parts,
      table-stands t u shown.columns r (inner q (record { horizontal = 0; vertical = 0 })).x
          (right_edge (inner q (record { horizontal = 0; vertical = 0 }))) n (shown.are_columns.in_order tt) (no-margin q) shows framed
          new refl inside shown.parts,
    )) is
