-- What a view shows of a settled content is settled, and of a plain one plain; and a cell that ends within the view is whole.
use Rattle.std.proofs.Common.{◌≡◌, ◌⊎◌, ⊎_elim, inl, inr, List, Option, Some, None, ℕ, ◌+◌, ◌-◌, ◌<◌, ◌≤◌, min, Bool, true, false, nat_lt, if◌then◌else◌, refl, sym, ap, subst, ◌∙◌}
use Rattle.std.proofs.Common.{arith}
use Rattle.std.proofs.lemmas.Bool.{cases_lt}
use Rattle.std.proofs.lemmas.Bool.Decides.{nat_tests}
use Rattle.ratatui_core.specs.Layout.{Rect, Position, HasPosition, EdgesFit, intersected}
use Rattle.ratatui_core.specs.Buffer.{BufferData, Cell, cell, cell_at, cell_in, cell_index, width_of, is_skipped, empty_cell, style_of, with_symbol}
use Rattle.ratatui_core.specs.Buffer.{IsSettled, IsSettledBuffer, IsBlankOrSkipped, IsPlain, IsPlainFrom}
use Rattle.ratatui_core.proofs.BufferLemmas.{has-or-not, index-at, width-empty, same_width, plain-styled, plain-with_symbol, settled-plain}
use Rattle.widget_boxes.specs.{Boxes.IsBoxArea, Titles.DoesIf}
use Rattle.widget_boxes.proofs.InnerLemmas.{bare-or}
use Rattle.widget_scrollbar.specs.declared.scrollbar.state.ScrollbarState.{ScrollbarState}
use Rattle.widget_scrollbar.specs.declared.scrollbar.ScrollbarOrientation.{ScrollbarOrientation}
use Rattle.widget_scrollbar.proofs.{SetLemmas.new-takes-one, SetLemmas.one-graphemes, NarrowBarLemmas.plain-scrollbar}
use Rattle.widget_scroll_view.specs.declared.scroll_view.ScrollView.{ScrollView}
use Rattle.widget_scroll_view.specs.declared.state.ScrollViewState.{ScrollViewState}
use Rattle.widget_scroll_view.specs.Places.{has_vertical, has_horizontal, view_area, vertical_bar, horizontal_bar, content_position}
use Rattle.widget_scroll_view.specs.Places.{shown_offset, shown_area, CanBeSeen}
use Rattle.widget_scroll_view.specs.ScrollViews.{IsReadyOver, PaintsBar, PaintsBars, ShowsContent, RendersScrollView, shown_cell, styled_blank, with_track}
use Rattle.widget_scrollbar.specs.Scrollbars.{IsOneColumn, IfSymbol, EachSymbol, RendersScrollbar, bar_area, bar_length, track_length}
use Rattle.widget_scrollbar.specs.Scrollbars.{marks_of, mark_of, marked, place_on_bar}
use Rattle.widget_scrollbar.specs.declared.scrollbar.Scrollbar.{Scrollbar}
use Rattle.widget_scrollbar.proofs.ScrollbarLemmas.{mark-has}
use Rattle.std.specs.{Borrow.Bor}
use Rattle.ratatui_core.specs.Style.{Style}
use Rattle.widget_scroll_view.proofs.BarLemmas.{with_track-each}
use Rattle.widget_scroll_view.proofs.{WindowLemmas.in-content, PlaceLemmas.less-most, PlaceLemmas.FitsWhole, PlaceLemmas.fits-whole}
use Rattle.widget_scroll_view.specs.declared.scroll_view.ScrollbarVisibility.TheVariants.{Always}
use Rattle.widget_scroll_view.proofs.ScrollViewLemmas.{bars-within, shown-in-area, offset-room, shows-content, shows-state, own-still, first-still}

plain-empty : IsPlain empty_cell
plain-empty = let one = width-empty in record {
  narrow = omega arith;
  unmarked = record { option = refl; flag = refl };
}

plain-blank : (c : Cell) → IsPlain (styled_blank c)
plain-blank c = plain-styled (style_of c) empty_cell plain-empty

skipped-or : (t : Bool) {u : Bool} → u ≡ t → (u ≡ true) ⊎ (u ≡ false)
skipped-or true e = inl e
skipped-or false e = inr e

choice-or : (n m : ℕ) (a b : Cell)
    → ((m ≤ n) × ((if nat_lt n m then a else b) ≡ b)) ⊎ ((n < m) × ((if nat_lt n m then a else b) ≡ a))
choice-or n m a b = grind (arith, nat_tests)

-- the content's cell, if it ends within the view, and else a blank
pub shown-or : (content : BufferData) (offset : Position) (view : Rect) (p : Position)
    → let c = cell_in content (content_position content offset view p) in
    ((p.x + width_of c ≤ view.x + view.width) × (shown_cell content offset view p ≡ c))
    ⊎ ((view.x + view.width < p.x + width_of c) × (shown_cell content offset view p ≡ styled_blank c))
shown-or content offset view p =
    let c = cell_in content (content_position content offset view p) in
    choice-or (view.x + view.width) (p.x + width_of c) (styled_blank c) c

-- bars keep cells plain
bar-if-plain : (t : Bool) (o : ScrollbarOrientation) (s : ScrollbarState) (bar : Rect) (old new : BufferData) → IsPlainFrom 0 old
    → DoesIf t (PaintsBar o s bar) old new → IsPlainFrom 0 new
bar-if-plain true o s bar old new plain is =
    plain-scrollbar (with_track bar is.bar) s s bar old new (one-graphemes (with_track bar is.bar)
    (with_track-each IsOneColumn bar is.bar (new-takes-one o is.bar is.is_new))) plain is.painted
bar-if-plain false o s bar old new plain is = rw is plain

bars-plain : (v : ScrollView) (offset : Position) (r : Rect) (old mid : BufferData) → IsPlainFrom 0 old
    → PaintsBars v offset r old mid
    → IsPlainFrom 0 mid
bars-plain v offset r old mid plain is =
    bar-if-plain (has_horizontal v r) _ _ (horizontal_bar r (view_area v r)) is.between mid
    (bar-if-plain (has_vertical v r) _ _ (vertical_bar r (view_area v r)) old is.between plain is.first) is.second

-- a mark of a symbol of one column keeps a cell plain
marked-plain : (q : Option (Bor (List ℕ)) × Style) (c : Cell) → IfSymbol IsOneColumn q.0 → IsPlain c → IsPlain (marked q c)
marked-plain (None, style) c one plain = plain
marked-plain (Some symbol, style) c one plain =
    let w = one.columns in
    plain-styled style (with_symbol symbol.now c) (plain-with_symbol symbol.now c plain (omega arith))

bar-plain : (b : Scrollbar) (s : ScrollbarState) (bar : Rect) (old new : BufferData) → EachSymbol IsOneColumn b
    → RendersScrollbar b s s bar old new → (p : Position) → HasPosition old.area p → IsPlain (cell_in old p) → IsPlain (cell_in new p)
bar-plain b s bar old new one is p own plain =
    let q = intersected bar old.area in
    let stays : new ≡ old → IsPlain (cell_in new p) = λ e. rw e plain in
    bare-or q (λ none. stays (is.bar.nothing none)) (λ wide high.
    let marks = is.bar.part wide high in
    ⊎_elim
    (λ (some : 0 < s.content_length).
    ⊎_elim
    (λ (room : 0 < track_length b (bar_length b.orientation q)).
    let changes = marks.cells some room one in
    elim (has-or-not (bar_area b.orientation q) p) [
      | inl here ↦ subst IsPlain (sym (changes.inside p own here)) (marked-plain
          (mark_of (marks_of b s q) (place_on_bar (marks_of b s q) p)) (cell_in old p)
          (mark-has (IfSymbol IsOneColumn) (marks_of b s q) (place_on_bar (marks_of b s q) p) one) plain)
      | inr off ↦ subst IsPlain (sym (changes.outside p own off)) plain
    ])
    (λ (le : track_length b (bar_length b.orientation q) ≤ 0). stays (marks.none (inr (omega arith))))
    (cases_lt 0 (track_length b (bar_length b.orientation q))))
    (λ (le : s.content_length ≤ 0). stays (marks.none (inl (omega arith))))
    (cases_lt 0 s.content_length))

bar-if-keeps : (t : Bool) (o : ScrollbarOrientation) (s : ScrollbarState) (bar : Rect) (old new : BufferData)
    → DoesIf t (PaintsBar o s bar) old new → (p : Position) → HasPosition old.area p → IsPlain (cell_in old p) → IsPlain (cell_in new p)
bar-if-keeps true o s bar old new is p own plain =
    bar-plain (with_track bar is.bar) s bar old new (with_track-each IsOneColumn bar is.bar (new-takes-one o is.bar is.is_new))
    is.painted p own plain
bar-if-keeps false o s bar old new is p own plain = rw is plain

bars-keep : (v : ScrollView) (offset : Position) (r : Rect) (old mid : BufferData) → IsBoxArea r → PaintsBars v offset r old mid
    → (p : Position) → HasPosition old.area p → IsPlain (cell_in old p) → IsPlain (cell_in mid p)
bars-keep v offset r old mid box is p own plain =
    bar-if-keeps (has_horizontal v r) _ _ (horizontal_bar r (view_area v r)) is.between mid is.second p
    (first-still v offset r old mid box is p own)
    (bar-if-keeps (has_vertical v r) _ _ (vertical_bar r (view_area v r)) old is.between is.first p own plain)

-- a plain content keeps cells plain
content-plain : (content : BufferData) (offset : Position) (view : Rect) (mid new : BufferData) → IsPlainFrom 0 content
    → IsPlainFrom 0 mid
    → ((p : Position) → HasPosition view p → HasPosition content.area (content_position content offset view p))
    → ShowsContent content offset view mid new → IsPlainFrom 0 new
content-plain content offset view mid new plain_content plain there is = λ p in_new le.
    let own : HasPosition mid.area p = subst (λ a. HasPosition a p) is.area in_new in
    elim (has-or-not view p) [
      | inl has ↦ subst IsPlain (sym (is.inside p own has)) (elim (shown-or content offset view p) [
        | inl (ends, e) ↦ rw e (plain_content (content_position content offset view p) (there p has) (omega arith))
        | inr (cut, e) ↦ rw e (plain-blank (cell_in content (content_position content offset view p)))
      ])
      | inr off ↦ subst IsPlain (sym (is.outside p own off)) (plain p own le)
    ]

-- a cell that is as before, and so are those that it covers
record IsFormer (w : ℕ) (former cells : List Cell) (a b : ℕ) : Type 0 where
  same : cell_at w cells a b ≡ cell_at w former a b
  covered : is_skipped (cell_at w former a b) ≡ false → (k : ℕ) → a < k → k < a + width_of (cell_at w former a b)
      → cell_at w cells k b ≡ cell_at w former k b

-- a settled content among cells that are plain or as before
module _ (content : BufferData) (offset : Position) (view : Rect) (mid new : BufferData) (edges : EdgesFit mid.area)
    (settled : IsSettledBuffer content) (across : offset.x + view.width ≤ content.area.width)
    (down : offset.y + view.height ≤ content.area.height) (left : mid.area.x ≤ view.x)
    (right : view.x + view.width ≤ mid.area.x + mid.area.width) (top : mid.area.y ≤ view.y)
    (bottom : view.y + view.height ≤ mid.area.y + mid.area.height) (is : ShowsContent content offset view mid new)
    (former : List Cell) (was : IsSettled mid.area.width mid.area.height former)
    (beside : (a b : ℕ) → a < mid.area.width → b < mid.area.height
    → ¬ (HasPosition view (record { x = mid.area.x + a; y = mid.area.y + b }))
    → IsPlain (cell_at mid.area.width new.cells a b) ⊎ IsFormer mid.area.width former new.cells a b) where
  abbrev place : ℕ → ℕ → Position
  place a b = record { x = mid.area.x + a; y = mid.area.y + b }

  has-place : (a b : ℕ) → a < mid.area.width → b < mid.area.height → HasPosition mid.area (place a b)
  has-place a b a_in b_in = let r = edges.right in let d = edges.bottom in
      record { left = omega arith; right = omega arith; top = omega arith; bottom = omega arith }

  now-at : (a b : ℕ) → cell_in new (place a b) ≡ cell_at mid.area.width new.cells a b
  now-at a b = ap (λ q. cell new.cells (cell_index q (place a b))) is.area ∙ ap (λ i. cell new.cells i)
      (index-at mid.area.x mid.area.y mid.area.width a b)

  -- the content's column and row at a place
  abbrev column : ℕ → ℕ
  column a = offset.x + (mid.area.x + a - view.x)

  abbrev row : ℕ → ℕ
  row b = offset.y + (mid.area.y + b - view.y)

  content-at : (a b : ℕ) → cell_in content (content_position content offset view (place a b))
      ≡ cell_at content.area.width content.cells (column a) (row b)
  content-at a b =
      let y : content.area.y + offset.y + (mid.area.y + b - view.y) - content.area.y ≡ row b = omega arith in
      let x : content.area.x + offset.x + (mid.area.x + a - view.x) - content.area.x ≡ column a = omega arith in
      ap (λ i. cell content.cells i) (rw (y, x) refl)

  -- in the view it is a blank, or the content's, which ends within the view
  record IsWhole (a b : ℕ) : Type 0 where
    in_column : column a < content.area.width
    in_row : row b < content.area.height
    ends : mid.area.x + a + width_of (cell_at content.area.width content.cells (column a) (row b)) ≤ view.x + view.width
    same : cell_at mid.area.width new.cells a b ≡ cell_at content.area.width content.cells (column a) (row b)

  cut-or-whole : (a b : ℕ) → a < mid.area.width → b < mid.area.height → HasPosition view (place a b)
      → IsPlain (cell_at mid.area.width new.cells a b) ⊎ IsWhole a b
  cut-or-whole a b a_in b_in has =
      let own = has-place a b a_in b_in in
      let l = has.left in let r = has.right in let t = has.top in let d = has.bottom in
      let e : cell_at mid.area.width new.cells a b ≡ shown_cell content offset view (place a b) =
      sym (now-at a b) ∙ is.inside (place a b) own has in
      let w : width_of (cell_in content (content_position content offset view (place a b)))
      ≡ width_of (cell_at content.area.width content.cells (column a) (row b)) = ap width_of (content-at a b) in
      elim (shown-or content offset view (place a b)) [
        | inl (ends, shown) ↦ inr (record {
          in_column = omega arith;
          in_row = omega arith;
          ends = omega arith;
          same = e ∙ shown ∙ content-at a b;
        })
        | inr (cut, shown) ↦ inl (subst IsPlain (sym (e ∙ shown)) (plain-blank (cell_in content (content_position content offset view (place a b)))))
      ]

  -- a cell of the content that is a blank or skipped isn't cut
  narrow-blank : (a b : ℕ) → a < content.area.width → b < content.area.height
      → IsBlankOrSkipped (cell_at content.area.width content.cells a b) → width_of (cell_at content.area.width content.cells a b) ≤ 1
  narrow-blank a b a_in b_in (inl same) =
      let w = same_width (cell_at content.area.width content.cells a b) empty_cell same in let one = width-empty in omega arith
  narrow-blank a b a_in b_in (inr skip) = settled.skipped a b a_in b_in skip

  uncut : (a b : ℕ) → a < mid.area.width → b < mid.area.height → HasPosition view (place a b)
      → width_of (cell_at content.area.width content.cells (column a) (row b)) ≤ 1
      → cell_at mid.area.width new.cells a b ≡ cell_at content.area.width content.cells (column a) (row b)
  uncut a b a_in b_in has narrow =
      let own = has-place a b a_in b_in in
      let r = has.right in
      let w : width_of (cell_in content (content_position content offset view (place a b)))
      ≡ width_of (cell_at content.area.width content.cells (column a) (row b)) = ap width_of (content-at a b) in
      sym (now-at a b) ∙ is.inside (place a b) own has ∙ elim (shown-or content offset view (place a b)) [
        | inl (ends, shown) ↦ shown ∙ content-at a b
        | inr (cut, shown) ↦ absurd (omega arith)
      ]

  behind-whole : (a b k : ℕ) → a < mid.area.width → b < mid.area.height → HasPosition view (place a b) → IsWhole a b
      → is_skipped (cell_at mid.area.width new.cells a b) ≡ false → a < k
      → k < a + width_of (cell_at mid.area.width new.cells a b) → IsBlankOrSkipped (cell_at mid.area.width new.cells k b)
  behind-whole a b k a_in b_in has whole off more less =
      let l = has.left in let r = has.right in let t = has.top in let d = has.bottom in let ends = whole.ends in
      let w : width_of (cell_at mid.area.width new.cells a b) ≡ width_of (cell_at content.area.width content.cells (column a) (row b)) =
      ap width_of whole.same in
      let er = edges.right in let ed = edges.bottom in
      let there : HasPosition view (place k b) = record { left = omega arith; right = omega arith; top = t; bottom = d } in
      let in_row = whole.in_row in
      let in_column : column k < content.area.width = omega arith in
      let blank : IsBlankOrSkipped (cell_at content.area.width content.cells (column k) (row b)) =
      settled.behind (column a) (row b) (column k) whole.in_column in_row (sym (ap is_skipped whole.same) ∙ off) (omega arith)
      (omega arith) in
      subst IsBlankOrSkipped
      (sym (uncut k b (omega arith) b_in there (narrow-blank (column k) (row b) in_column in_row blank))) blank

  content-settled : IsSettledBuffer new
  content-settled = subst (λ q. IsSettled q.width q.height new.cells) (sym is.area) (record {
    skipped = λ a b a_in b_in skip. elim (has-or-not view (place a b)) [
      | inl has ↦ elim (cut-or-whole a b a_in b_in has) [
        | inl blank ↦ blank.narrow
        | inr whole ↦
            let w : width_of (cell_at mid.area.width new.cells a b)
            ≡ width_of (cell_at content.area.width content.cells (column a) (row b)) = ap width_of whole.same in
            let one = settled.skipped (column a) (row b) whole.in_column whole.in_row (sym (ap is_skipped whole.same) ∙ skip) in
            omega arith
      ]
      | inr off ↦ elim (beside a b a_in b_in off) [
        | inl plain ↦ plain.narrow
        | inr f ↦ rw f.same (was.skipped a b a_in b_in (sym (ap is_skipped f.same) ∙ skip))
      ]
    ];
    within = λ a b a_in b_in plain_. elim (has-or-not view (place a b)) [
      | inl has ↦ elim (cut-or-whole a b a_in b_in has) [
        | inl blank ↦ let one = blank.narrow in omega arith
        | inr whole ↦
            let w : width_of (cell_at mid.area.width new.cells a b)
            ≡ width_of (cell_at content.area.width content.cells (column a) (row b)) = ap width_of whole.same in
            let ends = whole.ends in omega arith
      ]
      | inr off ↦ elim (beside a b a_in b_in off) [
        | inl plain ↦ let one = plain.narrow in omega arith
        | inr f ↦ rw f.same (was.within a b a_in b_in (sym (ap is_skipped f.same) ∙ plain_))
      ]
    ];
    behind = λ a b k a_in b_in off_ more less. elim (has-or-not view (place a b)) [
      | inl has ↦ elim (cut-or-whole a b a_in b_in has) [
        | inl blank ↦ let one = blank.narrow in absurd (omega arith)
        | inr whole ↦ behind-whole a b k a_in b_in has whole off_ more less
      ]
      | inr off ↦ elim (beside a b a_in b_in off) [
        | inl plain ↦ let one = plain.narrow in absurd (omega arith)
        | inr f ↦
            let w : width_of (cell_at mid.area.width new.cells a b) ≡ width_of (cell_at mid.area.width former a b) = ap width_of f.same in
            let unskipped = sym (ap is_skipped f.same) ∙ off_ in
            subst IsBlankOrSkipped (sym (f.covered unskipped k more (omega arith)))
            (was.behind a b k a_in b_in unskipped more (omega arith))
      ]
    ];
  })

-- a rectangle in another one
record LiesIn (a b : Rect) : Type 0 where
  left : b.x ≤ a.x
  right : a.x + a.width ≤ b.x + b.width
  top : b.y ≤ a.y
  bottom : a.y + a.height ≤ b.y + b.height

part-lies : (area own : Rect) → 0 < (intersected area own).width → 0 < (intersected area own).height
    → LiesIn (intersected area own) own
part-lies area own wide high = record { left = omega arith; right = omega arith; top = omega arith; bottom = omega arith }

view-lies : (v : ScrollView) (q own : Rect) → LiesIn q own → LiesIn (shown_area v.content (view_area v q)) own
view-lies v q own is =
    let l = is.left in let r = is.right in let t = is.top in let b = is.bottom in
    let w = less-most (has_vertical v q) q.width in let h = less-most (has_horizontal v q) q.height in
    record { left = omega arith; right = omega arith; top = omega arith; bottom = omega arith }

-- a cell of a settled buffer ends within its area
ends-within : (s : BufferData) (q : Position) → IsSettledBuffer s → HasPosition s.area q
    → q.x + width_of (cell_in s q) ≤ s.area.x + s.area.width
ends-within s q settled has =
    let l = has.left in let r = has.right in let t = has.top in let b = has.bottom in
    elim (skipped-or (is_skipped (cell_in s q)) refl) [
      | inl skip ↦ let one : width_of (cell_in s q) ≤ 1 =
          settled.skipped (q.x - s.area.x) (q.y - s.area.y) (omega arith) (omega arith) skip in omega arith
      | inr plain ↦ let end : q.x - s.area.x + width_of (cell_in s q) ≤ s.area.width =
          settled.within (q.x - s.area.x) (q.y - s.area.y) (omega arith) (omega arith) plain in omega arith
    ]

-- where a position of a content can be seen in a view
record SeenIn (content : BufferData) (offset place p : Position) (view : Rect) : Type 0 where
  last : shown_offset content view offset ≡ offset
  there : HasPosition (shown_area content view) place
  is : content_position content offset (shown_area content view) place ≡ p
  whole : (w : ℕ) → w ≤ view.width → p.x + w ≤ content.area.x + content.area.width
      → place.x + w ≤ view.x + (shown_area content view).width

seen-in : (content : BufferData) (q : Rect) (p : Position) → content.area.width ≤ q.width → content.area.height ≤ q.height
    → IsBoxArea q
    → HasPosition content.area p → SeenIn content (record { x = 0; y = 0 })
    (record { x = q.x + (p.x - content.area.x); y = q.y + (p.y - content.area.y) }) p q
seen-in content q p wide high box has =
    let l = has.left in let r = has.right in let t = has.top in let b = has.bottom in let a = box.across in let d = box.down in
    record {
      last =
          let x : min 0 (content.area.width - q.width) ≡ 0 = omega arith in
          let y : min 0 (content.area.height - q.height) ≡ 0 = omega arith in
          λ i. record { x = x i; y = y i };
      there = record { left = omega arith; right = omega arith; top = omega arith; bottom = omega arith };
      is =
          let x : content.area.x + 0 + (q.x + (p.x - content.area.x) - q.x) ≡ p.x = omega arith in
          let y : content.area.y + 0 + (q.y + (p.y - content.area.y) - q.y) ≡ p.y = omega arith in
          λ i. record { x = x i; y = y i };
      whole = λ w room ends. omega arith;
    }

-- where a content that is no larger than the area can be seen
seen-whole : (v : ScrollView) (q : Rect) (p : Position) → FitsWhole v q → v.content.area.width ≤ q.width
    → v.content.area.height ≤ q.height
    → IsBoxArea q → HasPosition v.content.area p → CanBeSeen v q p
seen-whole v q p fits wide high box has =
    let zero : Position = record { x = 0; y = 0 } in
    let place : Position = record { x = q.x + (p.x - v.content.area.x); y = q.y + (p.y - v.content.area.y) } in
    let seen : SeenIn v.content zero place p (view_area v q) =
    subst (SeenIn v.content zero place p) (sym fits.view) (seen-in v.content q p wide high box has) in
    record { offset = zero; place = place; last = seen.last; there = seen.there; is = seen.is; whole = seen.whole }

-- the cell at a place of an area
at-place : (s : BufferData) (q : Rect) → s.area ≡ q → (a b : ℕ)
    → cell_in s (record { x = q.x + a; y = q.y + b }) ≡ cell_at q.width s.cells a b
at-place s q e a b =
    ap (λ (o : Rect). cell s.cells (cell_index o (record { x = q.x + a; y = q.y + b }))) e
    ∙ ap (λ i. cell s.cells i) (index-at q.x q.y q.width a b)

both-in : (a b : Rect) (p : Position) → HasPosition a p → HasPosition b p → HasPosition (intersected a b) p
both-in a b p here there =
    let l1 = here.left in let r1 = here.right in let t1 = here.top in let b1 = here.bottom in
    let l2 = there.left in let r2 = there.right in let t2 = there.top in let b2 = there.bottom in
    record { left = omega arith; right = omega arith; top = omega arith; bottom = omega arith }

-- a buffer of plain cells may be painted anywhere
pub ready-over : (r : Rect) (s : BufferData) → EdgesFit s.area → IsPlainFrom 0 s → IsReadyOver r s
ready-over r s edges plain = record {
  edges = edges;
  settled = settled-plain s edges plain;
  plain = λ p own here. plain p own (omega arith);
  before = λ p own top bottom left unskipped. let one = (plain p own (omega arith)).narrow in omega arith;
}

-- a whole rendering
module _ (v : ScrollView) (s t : ScrollViewState) (area : Rect) (old new : BufferData) (is : RendersScrollView v s t area old new) where
  abbrev r : Rect
  r = intersected area old.area

  part-box : 0 < r.width → 0 < r.height → IsBoxArea r
  part-box wide high = record { columns = wide; rows = high; across = omega arith; down = omega arith }

  room : t.offset ≡ shown_offset v.content (view_area v r) s.offset
      → (t.offset.x + (shown_area v.content (view_area v r)).width ≤ v.content.area.width)
      × (t.offset.y + (shown_area v.content (view_area v r)).height ≤ v.content.area.height)
  room e = rw e (offset-room v.content (view_area v r) s.offset)

  pub view-plain : EdgesFit v.content.area → IsPlainFrom 0 v.content → IsPlainFrom 0 old → IsPlainFrom 0 new
  view-plain edges plain_content plain =
      bare-or r (λ none. rw (is.shown.nothing none) plain) (λ wide high.
      let shown = is.shown.part wide high in
      let room = room (ap (λ (u : ScrollViewState). u.offset) shown.state) in
      content-plain v.content t.offset (shown_area v.content (view_area v r)) shown.picture.between new plain_content
      (bars-plain v t.offset r old shown.picture.between plain shown.picture.first)
      (in-content v.content t.offset (view_area v r) edges room.0 room.1) shown.picture.second)

  -- outside the area a cell is as before
  former-at : (p : Position) → HasPosition old.area p → ¬ (HasPosition r p) → cell_in new p ≡ cell_in old p
  former-at p own off = is.within.outside p own (λ here. off (both-in area old.area p here own))

  module _ (ready : IsReadyOver r old) (q : Rect) (same : old.area ≡ q) (now : new.area ≡ q) where
    abbrev place_of : ℕ → ℕ → Position
    place_of a b = record { x = q.x + a; y = q.y + b }

    own-place : (a b : ℕ) → a < q.width → b < q.height → HasPosition old.area (place_of a b)
    own-place a b a_in b_in =
        let edges = subst EdgesFit same ready.edges in let right = edges.right in let bottom = edges.bottom in
        let has : HasPosition q (place_of a b) =
        record { left = omega arith; right = omega arith; top = omega arith; bottom = omega arith } in
        subst (λ o. HasPosition o (place_of a b)) (sym same) has

    former-cell : (a b : ℕ) → a < q.width → b < q.height → ¬ (HasPosition r (place_of a b))
        → cell_at q.width new.cells a b ≡ cell_at q.width old.cells a b
    former-cell a b a_in b_in off =
        sym (at-place new q now a b) ∙ former-at (place_of a b) (own-place a b a_in b_in) off ∙ at-place old q same a b

    -- nothing that stands beside the area reaches there
    apart : (a b k : ℕ) → a < q.width → b < q.height → k < q.width → ¬ (HasPosition r (place_of a b))
        → is_skipped (cell_at q.width old.cells a b) ≡ false → a < k → k < a + width_of (cell_at q.width old.cells a b)
        → ¬ (HasPosition r (place_of k b))
    apart a b k a_in b_in k_in off plain more less here =
        let l = here.left in let e = here.right in let t = here.top in let d = here.bottom in
        ⊎_elim
        (λ (before : q.x + a < r.x).
        let at = at-place old q same a b in
        let w : width_of (cell_in old (place_of a b)) ≡ width_of (cell_at q.width old.cells a b) = ap width_of at in
        let end = ready.before (place_of a b) (own-place a b a_in b_in) t (omega arith) before (ap is_skipped at ∙ plain) in
        omega arith)
        (λ (from : r.x ≤ q.x + a). off (record { left = from; right = omega arith; top = t; bottom = d }))
        (cases_lt (q.x + a) r.x)

    former-there : (was : IsSettled q.width q.height old.cells) (a b : ℕ) → a < q.width → b < q.height
        → ¬ (HasPosition r (place_of a b)) → IsFormer q.width old.cells new.cells a b
    former-there was a b a_in b_in off = record {
      same = former-cell a b a_in b_in off;
      covered = λ plain k more less.
          let ends = was.within a b a_in b_in plain in
          former-cell k b (omega arith) b_in (apart a b k a_in b_in (omega arith) off plain more less);
    }

  pub view-settled : IsSettledBuffer v.content → IsReadyOver r old → IsSettledBuffer new
  view-settled settled ready =
      bare-or r (λ none. rw (is.shown.nothing none) ready.settled) (λ wide high.
      let shown = is.shown.part wide high in
      let mid = shown.picture.between in
      let box = part-box wide high in
      let room = room (ap (λ (u : ScrollViewState). u.offset) shown.state) in
      let same : mid.area ≡ old.area = (bars-within v t.offset r old mid box shown.picture.first).same_area in
      let lies : LiesIn (shown_area v.content (view_area v r)) mid.area =
      rw same (view-lies v r old.area (part-lies area old.area wide high)) in
      let was : IsSettled mid.area.width mid.area.height old.cells =
      subst (λ (q : Rect). IsSettled q.width q.height old.cells) (sym same) ready.settled in
      let now : new.area ≡ mid.area = shown.picture.second.area in
      content-settled v.content t.offset (shown_area v.content (view_area v r)) mid new (rw same ready.edges) settled room.0 room.1
      lies.left lies.right lies.top lies.bottom shown.picture.second old.cells was
      (λ a b a_in b_in off.
      let p : Position = record { x = mid.area.x + a; y = mid.area.y + b } in
      let own : HasPosition old.area p = own-place ready mid.area (sym same) now a b a_in b_in in
      elim (has-or-not r p) [
        | inl here ↦ inl (subst IsPlain
            (sym (shown.picture.second.outside p (own-still p old mid same own) off) ∙ at-place new mid.area now a b)
            (bars-keep v t.offset r old mid box shown.picture.first p own (ready.plain p own here)))
        | inr beside ↦ inr (former-there ready mid.area (sym same) now was a b a_in b_in beside)
      ]))

  -- a cell that ends within the content is shown whole where it can be seen
  pub shows-whole : (q : Position) (seen : CanBeSeen v r q) → t.offset ≡ seen.offset
      → width_of (cell_in v.content q) ≤ (view_area v r).width
      → q.x + width_of (cell_in v.content q) ≤ v.content.area.x + v.content.area.width
      → cell_in new seen.place ≡ cell_in v.content q
  shows-whole q seen from narrow ends =
      let there = seen.there in
      let in_part = shown-in-area v r seen.place there in
      let l = in_part.left in let e = in_part.right in let u = in_part.top in let b = in_part.bottom in
      let own : HasPosition old.area seen.place =
      record { left = omega arith; right = omega arith; top = omega arith; bottom = omega arith } in
      let source : cell_in v.content (content_position v.content seen.offset (shown_area v.content (view_area v r)) seen.place)
      ≡ cell_in v.content q = ap (cell_in v.content) seen.is in
      let w = ap width_of source in
      let whole = seen.whole (width_of (cell_in v.content q)) narrow ends in
      shows-content v s t area old new is seen.place own there
      ∙ ap (λ o. shown_cell v.content o (shown_area v.content (view_area v r)) seen.place) from
      ∙ elim (shown-or v.content seen.offset (shown_area v.content (view_area v r)) seen.place) [
        | inl (fits, shown) ↦ shown ∙ source
        | inr (cut, shown) ↦ absurd (omega arith)
      ]

  -- it ends there, if the content is settled
  pub shows-seen : (q : Position) (seen : CanBeSeen v r q) → s.offset ≡ seen.offset → IsSettledBuffer v.content
      → HasPosition v.content.area q → width_of (cell_in v.content q) ≤ (view_area v r).width
      → cell_in new seen.place ≡ cell_in v.content q
  shows-seen q seen from settled has narrow =
      let in_part = shown-in-area v r seen.place seen.there in
      let l = in_part.left in let e = in_part.right in let u = in_part.top in let b = in_part.bottom in
      let state = shows-state v s t area old new is (omega arith) (omega arith) in
      shows-whole q seen
      (ap (λ (u : ScrollViewState). u.offset) state ∙ ap (shown_offset v.content (view_area v r)) from ∙ seen.last) narrow
      (ends-within v.content q settled has)

  -- a content that is no larger than the area shows from its first cell on
  pub shows-fitting : (q : Position) → ¬ (v.vertical_scrollbar_visibility ≡ Always)
      → ¬ (v.horizontal_scrollbar_visibility ≡ Always)
      → v.content.area.width ≤ r.width → v.content.area.height ≤ r.height → IsSettledBuffer v.content → HasPosition v.content.area q
      → cell_in new (record { x = r.x + (q.x - v.content.area.x); y = r.y + (q.y - v.content.area.y) }) ≡ cell_in v.content q
  unfolding seen-whole
  shows-fitting q off_down off_across wide high settled has =
      let l = has.left in let e = has.right in let u = has.top in let b = has.bottom in
      let fits : FitsWhole v r = fits-whole v r off_down off_across wide high in
      let state = shows-state v s t area old new is (omega arith) (omega arith) in
      let ends = ends-within v.content q settled has in
      shows-whole q (seen-whole v r q fits wide high (part-box (omega arith) (omega arith)) has)
      (ap (λ (u : ScrollViewState). u.offset) state ∙ subst (λ (view : Rect). shown_offset v.content view s.offset ≡ record { x = 0; y = 0 }) (sym fits.view) (fits.first s.offset))
      (subst (λ (view : Rect). width_of (cell_in v.content q) ≤ view.width) (sym fits.view) (omega arith)) ends
