-- A list of narrow texts keeps cells plain.
use Rattle.std.proofs.Common.{ℕ, zero, suc, ◌+◌, Bool, true, false, List, [], ◌∷◌, All, Option, Some, None, IfSome}
use Rattle.std.proofs.Common.{arith, codes, is_some, nat_lt, take, drop}
use Rattle.std.proofs.lemmas.List.Elements.{All-head, All-tail, All-take, All-drop}
use Rattle.ratatui_core.specs.{Layout.Rect, Layout.intersected, Text.LineData}
use Rattle.ratatui_core.specs.Text.{TakesOneColumn, EachLineGrapheme, EachTextGrapheme}
use Rattle.ratatui_core.specs.Buffer.{BufferData, width_of, IsPlainFrom}
use Rattle.ratatui_core.proofs.BufferLemmas.{width-empty, plain-with_symbol, over-all, from-over}
use Rattle.widget_boxes.specs.{Framed.inner_if, Boxes.IsNarrowBox, Titles.DoesIf, Highlights.IsHighlighted}
use Rattle.widget_boxes.proofs.{InnerLemmas.plain-inside, ApartLemmas.plain-lit}
use Rattle.rtui_drawing.specs.Drawings.{over}
use Rattle.rtui_drawing.specs.declared.cut.Cut.TheVariants.{First}
use Rattle.rtui_drawing.proofs.{Laws.IsNarrowDrawing, DrawingLemmas.if-narrow, DrawingLemmas.draws-plain}
use Rattle.widget_list.specs.{declared.list.List.List as ListData, declared.item.ListItem.ListItem}
use Rattle.widget_list.specs.{declared.state.ListState.ListState, Windows.item_rows}
use Rattle.widget_list.specs.Items.{symbol_or_blanks, marks_drawing, is_marked, marks_over, item_drawing, ShowsItem, ShowsItems}
use Rattle.widget_list.specs.Items.{is_selected_at, columns_kept_free, HasNarrowItems, ShowsList, RendersList}

mark-narrow : (symbol : Option LineData) (t : Bool) → IfSome symbol (EachLineGrapheme TakesOneColumn)
    → IsNarrowDrawing (symbol_or_blanks symbol t)
unfolding width_of
mark-narrow symbol false narrow = λ p c plain. plain-with_symbol (codes " ") c plain (let one = width-empty in omega arith)
mark-narrow None true narrow = tt
mark-narrow (Some line) true narrow = narrow

abbrev IsNarrowItem : ListItem → Type 0
IsNarrowItem i = EachTextGrapheme TakesOneColumn i.content

module _ (l : ListData) (narrow : HasNarrowItems l) where
  marks-narrow : (is_selected : Bool) (j more : ℕ) → IsNarrowDrawing (marks_drawing l is_selected j more)
  marks-narrow is_selected j zero = tt
  marks-narrow is_selected j (suc more) = (
    mark-narrow l.highlight_symbol (is_marked l is_selected j) narrow.symbol,
    marks-narrow is_selected (j + 1) more,
  )

  over-narrow : (is_selected : Bool) (n rows : ℕ) → IsNarrowDrawing (marks_over l is_selected n rows)
  over-narrow is_selected n rows =
      if-narrow (nat_lt 0 n) (over (First n) (marks_drawing l is_selected 0 rows)) (marks-narrow is_selected 0 rows)

  highlight-plain : (t : Bool) (r : Rect) (old new : BufferData) → IsPlainFrom 0 old
      → DoesIf t (IsHighlighted r l.highlight_style) old new → IsPlainFrom 0 new
  highlight-plain true r old new plain is =
      from-over old new is.area (plain-lit l.highlight_style r old new is old.area (over-all old plain))
  highlight-plain false r old new plain same = rw same plain

  item-plain : (is_selected : Bool) (n : ℕ) (i : ListItem) (r : Rect) (old new : BufferData) → IsNarrowItem i → IsPlainFrom 0 old
      → ShowsItem l is_selected n i r old new → IsPlainFrom 0 new
  item-plain is_selected n i r old new text plain is =
      let texted = draws-plain (item_drawing l n i) r old is.texted (tt, text) plain is.text in
      let lit = highlight-plain is_selected r is.texted is.lit texted is.highlight in
      draws-plain (marks_over l is_selected n (item_rows i)) r is.lit new (over-narrow is_selected n (item_rows i)) lit is.marks

  items-plain : (selected : Option ℕ) (r : Rect) (k used : ℕ) (items : List ListItem) (old new : BufferData)
      → All IsNarrowItem items → IsPlainFrom 0 old → ShowsItems l selected r k used items old new → IsPlainFrom 0 new
  items-plain selected r k used [] old new all plain same = rw same plain
  items-plain selected r k used (i ∷ items) old new all plain is =
      items-plain selected r (k + 1) (used + item_rows i) items is.between new (All-tail IsNarrowItem i items all)
      (item-plain (is_selected_at selected k) (columns_kept_free l (is_some selected) r) i _ old is.between
      (All-head IsNarrowItem i items all) plain is.first) is.second

pub list-plain : (l : ListData) (s t : ListState) (area : Rect) (old new : BufferData) → IfSome l.block IsNarrowBox
    → HasNarrowItems l → IsPlainFrom 0 old → RendersList l s t area old new → IsPlainFrom 0 new
list-plain l s t area old new box narrow plain is =
    let r = inner_if l.block (intersected area old.area) in
    plain-inside l.style l.block (ShowsList l) s t area old new box plain (λ framed cells shows.
    items-plain l narrow t.selected r t.offset 0 (take shows.count (drop t.offset l.items.items)) framed new
    (All-take IsNarrowItem shows.count (drop t.offset l.items.items) (All-drop IsNarrowItem t.offset l.items.items narrow.items))
    cells shows.shown) is
