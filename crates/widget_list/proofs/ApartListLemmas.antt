-- A list on an area that is ready leaves it apart, with wide graphemes, too.
use Rattle.std.proofs.Common.{◌≡◌, ℕ, zero, suc, ◌+◌, ◌≤◌, Bool, true, false, List, [], ◌∷◌, All, Option, Some, None}
use Rattle.std.proofs.Common.{IfSome, refl, ap, ◌∙◌, arith, codes, is_some, nat_lt, take, drop, length, sum_by}
use Rattle.std.proofs.lemmas.List.Elements.{All-head, All-tail, All-take, All-drop}
use Rattle.std.proofs.lemmas.{List.Sums.sum_by-take-drop, List.Sums.sum_by-cons, List.drop-take, List.nil_from_length}
use Rattle.std.proofs.lemmas.{List.length-take}
use Rattle.ratatui_core.specs.{Layout.Rect, Layout.Position, Layout.HasPosition, Layout.IsInside, Layout.intersected}
use Rattle.ratatui_core.specs.{Text.LineData, Widgets.ChangesWithin, Style.patch}
use Rattle.ratatui_core.specs.Buffer.{BufferData, Cell, IsPlain, width_of}
use Rattle.ratatui_core.proofs.BufferLemmas.{width-empty, plain-with_symbol, changed-plain, within-wider, within-same}
use Rattle.ratatui_core.proofs.WidgetLemmas.{within-then}
use Rattle.widget_boxes.specs.{Framed.inner_if, Boxes.IsNarrowBox, Titles.DoesIf, Highlights.IsHighlighted}
use Rattle.widget_boxes.specs.Apart.{StandsApart, IsReadyIn, IsShowable, IsShowableText}
use Rattle.widget_boxes.proofs.ApartLemmas.{ready-apart, ready-stays, ready-styled, ready-inside, ready-beside, ready-lit, apart-part}
use Rattle.widget_boxes.proofs.ApartLemmas.{apart-around, line-apart, text-apart, lit-apart}
use Rattle.widget_boxes.proofs.ApartBoxLemmas.{frame-apart}
use Rattle.rtui_drawing.specs.{Cuts.cut_from, Drawings.DrawsAll}
use Rattle.rtui_drawing.specs.declared.cut.Cut.TheVariants.{First, After, Rows, Below, Above}
use Rattle.rtui_drawing.proofs.DrawingLemmas.{cut-inside, draws-within}
use Rattle.widget_list.specs.{declared.list.List.List as ListData, declared.item.ListItem.ListItem}
use Rattle.widget_list.specs.{declared.list.ListDirection.ListDirection, declared.state.ListState.ListState}
use Rattle.widget_list.specs.declared.list.ListDirection.TheVariants.{TopToBottom, BottomToTop}
use Rattle.widget_list.specs.Windows.{item_rows, rows_before, Fit}
use Rattle.widget_list.specs.Items.{left_blank, symbol_or_blanks, marks_drawing, is_marked, marks_over, item_drawing, item_cut}
use Rattle.widget_list.specs.Items.{ShowsItem, ShowsItems, is_selected_at, columns_kept_free, HasShowableItems, ShowsList, RendersList}
use Rattle.widget_list.proofs.ItemLemmas.{highlight-within}

-- ---- parts of an area that share no position

sides-apart : (n : ℕ) (r : Rect) (p : Position) → HasPosition (cut_from (First n) r) p → HasPosition (cut_from (After n) r) p → ⊥
sides-apart n r p a b = let e = a.right in let l = b.left in let t = a.top in omega arith

row-below : (j : ℕ) (r : Rect) → IsInside (cut_from (Rows j 1) r) (cut_from (Below j) r)
row-below j r p h = let l = h.left in let e = h.right in let t = h.top in let b = h.bottom in
    record { left = omega arith; right = omega arith; top = omega arith; bottom = omega arith }

next-below : (j n : ℕ) (r : Rect) → IsInside (cut_from (Below (j + n)) r) (cut_from (Below j) r)
next-below j n r p h = let l = h.left in let e = h.right in let t = h.top in let b = h.bottom in
    record { left = omega arith; right = omega arith; top = omega arith; bottom = omega arith }

row-apart : (j n : ℕ) (r : Rect) (p : Position) → HasPosition (cut_from (Below (j + n)) r) p
    → HasPosition (cut_from (Rows j n) r) p → ⊥
row-apart j n r p a b = let t = a.top in let e = b.bottom in let o = a.bottom in omega arith

all-below : (r : Rect) → IsInside (cut_from (Below 0) r) r
all-below r = cut-inside (Below 0) r

-- ---- the symbol, or blanks

mark-apart : (symbol : Option LineData) (t : Bool) (r : Rect) (old new : BufferData) → IfSome symbol IsShowable → IsReadyIn r old
    → DrawsAll (symbol_or_blanks symbol t) r old new → StandsApart r new
unfolding width_of
mark-apart symbol false r old new shows ready is =
    let blank : (p : Position) (c : Cell) → IsPlain c → IsPlain (left_blank c) = λ (p : Position) (c : Cell) plain.
    plain-with_symbol (codes " ") c plain (let one = width-empty in omega arith) in
    ready-apart r new (ready-stays r old new ready (draws-within (symbol_or_blanks symbol false) r old new is)
    (changed-plain r r (λ _. left_blank) old new blank ready.plain is))
mark-apart None true r old new shows ready same = rw same (ready-apart r old ready)
mark-apart (Some line) true r old new shows ready is = line-apart line r old new shows ready is

module _ (l : ListData) (shows : HasShowableItems l) where
  marks-apart : (is_selected : Bool) (j more : ℕ) (r : Rect) (old new : BufferData) → StandsApart r old
      → IsReadyIn (cut_from (Below j) r) old → DrawsAll (marks_drawing l is_selected j more) r old new → StandsApart r new
  marks-apart is_selected j zero r old new apart ready same = rw same apart
  marks-apart is_selected j (suc more) r old new apart ready is =
      let mid = is.0 in
      let row = cut_from (Rows j 1) r in let below = cut_from (Below j) r in
      let mark = symbol_or_blanks l.highlight_symbol (is_marked l is_selected j) in
      let here = mark-apart l.highlight_symbol (is_marked l is_selected j) row old mid shows.symbol
      (ready-inside below row old (row-below j r) ready) is.1 in
      let within = draws-within mark row old mid is.1 in
      marks-apart is_selected (j + 1) more r mid new
      (apart-around r row old mid (cut-inside (Rows j 1) r) apart within here)
      (ready-beside below row (cut_from (Below (j + 1)) r) old mid ready within here (row-below j r) (next-below j 1 r)
      (row-apart j 1 r)) is.2

  -- over an item: if columns stay free
  over-apart : (t : Bool) (is_selected : Bool) (n rows : ℕ) (r : Rect) (old new : BufferData) → t ≡ nat_lt 0 n → StandsApart r old
      → IsReadyIn (cut_from (First n) r) old → DrawsAll (marks_over l is_selected n rows) r old new → StandsApart r new
  over-apart true is_selected n rows r old new test apart ready is =
      let first = cut_from (First n) r in
      let drawn : DrawsAll (marks_drawing l is_selected 0 rows) first old new = rw (← test) at is in
      let within = draws-within (marks_drawing l is_selected 0 rows) first old new drawn in
      apart-around r first old new (cut-inside (First n) r) apart within
      (marks-apart is_selected 0 rows first old new (ready-apart first old ready)
      (ready-inside first (cut_from (Below 0) first) old (all-below first) ready) drawn)
  over-apart false is_selected n rows r old new test apart ready is =
      let same : new ≡ old = rw (← test) at is in rw same apart

  -- ---- an item

  lit-or-not : (t : Bool) (r q : Rect) (old new : BufferData) → DoesIf t (IsHighlighted r l.highlight_style) old new
      → StandsApart r old → IsReadyIn q old → StandsApart r new × IsReadyIn q new
  lit-or-not true r q old new is apart ready =
      (lit-apart l.highlight_style r old new is apart, ready-lit l.highlight_style r q old new is apart ready)
  lit-or-not false r q old new same apart ready = rw same (apart, ready)

  item-apart : (is_selected : Bool) (n : ℕ) (i : ListItem) (r : Rect) (old new : BufferData) → IsShowableText i.content
      → IsReadyIn r old → ShowsItem l is_selected n i r old new → StandsApart r new
  item-apart is_selected n i r old new text ready is =
      let mid = is.text.0 in
      let laid = ready-styled r (patch l.style i.style) old mid ready is.text.1 in
      let after = cut_from (After n) r in let first = cut_from (First n) r in
      let there = text-apart i.content after mid is.texted text (ready-inside r after mid (cut-inside (After n) r) laid) is.text.2 in
      let within = is.text.2.within in
      let texted = apart-part r after mid is.texted (cut-inside (After n) r) laid within there in
      let free = ready-beside r after first mid is.texted laid within there (cut-inside (After n) r) (cut-inside (First n) r)
      (sides-apart n r) in
      let lit = lit-or-not is_selected r first is.texted is.lit is.highlight texted free in
      over-apart (nat_lt 0 n) is_selected n (item_rows i) r is.lit new refl lit.0 lit.1 is.marks

  item-changes : (is_selected : Bool) (n : ℕ) (i : ListItem) (r : Rect) (old new : BufferData)
      → ShowsItem l is_selected n i r old new → ChangesWithin r old new
  item-changes is_selected n i r old new is =
      within-then r old is.texted new (draws-within (item_drawing l n i) r old is.texted is.text)
      (within-then r is.texted is.lit new (highlight-within is_selected l.highlight_style r is.texted is.lit is.highlight)
      (draws-within (marks_over l is_selected n (item_rows i)) r is.lit new is.marks))

-- ---- items one after the other

-- what is left of an area after items that take so many rows
abbrev left_of : ListDirection → Rect → ℕ → Rect
left_of TopToBottom r used = cut_from (Below used) r
left_of BottomToTop r used = cut_from (Above used) r

module _ (r : Rect) (used rows : ℕ) (fits : used + rows ≤ r.height) where
  item-in : (d : ListDirection) → IsInside (cut_from (item_cut d r used rows) r) (left_of d r used)
  item-in TopToBottom p h = let l = h.left in let e = h.right in let t = h.top in let b = h.bottom in
      record { left = omega arith; right = omega arith; top = omega arith; bottom = omega arith }
  item-in BottomToTop p h = let l = h.left in let e = h.right in let t = h.top in let b = h.bottom in
      record { left = omega arith; right = omega arith; top = omega arith; bottom = omega arith }

  left-in : (d : ListDirection) → IsInside (left_of d r (used + rows)) (left_of d r used)
  left-in TopToBottom p h = next-below used rows r p h
  left-in BottomToTop p h = let l = h.left in let e = h.right in let t = h.top in let b = h.bottom in
      record { left = omega arith; right = omega arith; top = omega arith; bottom = omega arith }

  left-apart : (d : ListDirection) (p : Position) → HasPosition (left_of d r (used + rows)) p
      → HasPosition (cut_from (item_cut d r used rows) r) p → ⊥
  left-apart TopToBottom p a b = row-apart used rows r p a b
  left-apart BottomToTop p a b = let e = a.bottom in let t = b.top in omega arith

all-left : (d : ListDirection) (r : Rect) → IsInside (left_of d r 0) r
all-left TopToBottom r = cut-inside (Below 0) r
all-left BottomToTop r = cut-inside (Above 0) r

module _ (l : ListData) (shows : HasShowableItems l) (selected : Option ℕ) (r : Rect) where
  abbrev IsShown : ListItem → Type 0
  IsShown i = IsShowableText i.content

  items-apart : (k used : ℕ) (items : List ListItem) (old new : BufferData) → All IsShown items
      → used + sum_by item_rows items ≤ r.height → StandsApart r old → IsReadyIn (left_of l.direction r used) old
      → ShowsItems l selected r k used items old new → ChangesWithin r old new × StandsApart r new
  items-apart k used [] old new all fits apart ready same = rw same (within-same r old, apart)
  items-apart k used (i ∷ items) old new all fits apart ready is =
      let sum : sum_by item_rows (i ∷ items) ≡ item_rows i + sum_by item_rows items = sum_by-cons item_rows i items in
      let cut = item_cut l.direction r used (item_rows i) in
      let part = cut_from cut r in
      let here_fits : used + item_rows i ≤ r.height = omega arith in
      let is_selected = is_selected_at selected k in
      let n = columns_kept_free l (is_some selected) r in
      let inside = item-in r used (item_rows i) here_fits l.direction in
      let within = item-changes l shows is_selected n i part old is.between is.first in
      let here = item-apart l shows is_selected n i part old is.between (All-head IsShown i items all)
      (ready-inside (left_of l.direction r used) part old inside ready) is.first in
      let rest = items-apart (k + 1) (used + item_rows i) items is.between new (All-tail IsShown i items all) (omega arith)
      (apart-around r part old is.between (cut-inside cut r) apart within here)
      (ready-beside (left_of l.direction r used) part (left_of l.direction r (used + item_rows i)) old is.between ready within here
      inside (left-in r used (item_rows i) here_fits l.direction) (left-apart r used (item_rows i) here_fits l.direction)) is.second in
      (within-then r old is.between new (within-wider part r old is.between (cut-inside cut r) within) rest.0, rest.1)

none-taken : (n : ℕ) (xs : List ListItem) → length xs ≡ 0 → take n xs ≡ []
none-taken n xs none = nil_from_length (take n xs) (length-take n xs ∙ omega (arith, none))

take-front : (xs : List ListItem) (a b : ℕ) → take a (take (a + b) xs) ≡ take a xs
take-front [] a b = ap (take a) (none-taken (a + b) [] refl)
take-front (x ∷ xs) zero b = refl
take-front (x ∷ xs) (suc a) b =
    let e : suc a + b ≡ suc (a + b) = omega arith in
    ap (λ n. take (suc a) (take n (x ∷ xs))) e ∙ ap (λ ys. x ∷ ys) (take-front xs a b)

-- those that fit take no more rows than there are
shown-fit : (items : List ListItem) (height from n : ℕ) → Fit items height from (from + n)
    → 0 + sum_by item_rows (take n (drop from items)) ≤ height
shown-fit items height from n fit =
    let whole = sum_by-take-drop item_rows (take (from + n) items) from in
    let back : drop from (take (from + n) items) ≡ take n (drop from items) = drop-take from n items in
    let front : sum_by item_rows (take from (take (from + n) items)) ≡ rows_before items from =
    ap (sum_by item_rows) (take-front items from n) in
    let e : sum_by item_rows (drop from (take (from + n) items)) ≡ sum_by item_rows (take n (drop from items)) =
    ap (sum_by item_rows) back in
    omega arith

pub list-apart : (l : ListData) (s t : ListState) (area : Rect) (old new : BufferData) → IfSome l.block IsNarrowBox
    → HasShowableItems l → IsReadyIn area old → RendersList l s t area old new → StandsApart area new
list-apart l s t area old new box shows ready is =
    let r = inner_if l.block (intersected area old.area) in
    frame-apart l.style l.block (ShowsList l) s t area old new box ready (λ framed inside shown.
    items-apart l shows t.selected r t.offset 0 (take shown.count (drop t.offset l.items.items)) framed new
    (All-take (λ (item : ListItem). IsShowableText item.content) shown.count (drop t.offset l.items.items)
    (All-drop (λ (item : ListItem). IsShowableText item.content) t.offset l.items.items shows.items))
    (shown-fit l.items.items r.height t.offset shown.count shown.is_count.fits) (ready-apart r framed inside)
    (ready-inside r (left_of l.direction r 0) framed (all-left l.direction r) inside) shown.shown) is
