-- A style and a narrow box on an area that is ready: what is inside is ready, and what it leaves apart leaves the area apart.
use Rattle.std.proofs.Common.{ℕ, ◌+◌, ◌-◌, ◌/◌, ◌==◌, Bool, true, false, if◌then◌else◌, nat_le}
use Rattle.std.proofs.Common.{List, [], ◌∷◌, reverse, All, Option, Some, None, IfSome, sym, subst, arith}
use Rattle.std.proofs.lemmas.{List.Elements.All-nil, List.Elements.All-cons, List.Elements.All-head}
use Rattle.std.proofs.lemmas.{List.Elements.All-tail, List.Elements.All-append}
use Rattle.ratatui_core.specs.Layout.{Rect, HasPosition, IsInside, EdgesFit, intersected}
use Rattle.ratatui_core.specs.{Style.Style, Text.LineData, Text.TakesOneColumn, Text.EachLineGrapheme, Widgets.ChangesWithin}
use Rattle.ratatui_core.specs.Buffer.{BufferData, cell_in, IsPlain, IsPlainOver}
use Rattle.ratatui_core.specs.declared.layout.HorizontalAlignment.TheVariants.{Left, Center, Right}
use Rattle.ratatui_core.proofs.BufferLemmas.{styled-plain}
use Rattle.rtui_widgets.proofs.NarrowTextLemmas.{line-plain}
use Rattle.widget_boxes.specs.{declared.block.Block.Block, declared.title.TitlePosition.TitlePosition}
use Rattle.widget_boxes.specs.declared.title.TitlePosition.TheVariants.{Top, Bottom}
use Rattle.widget_boxes.specs.Titles.{PlacedTitle, RendersTitle, RendersTitles, title_at, title_width, titles_width, first_columns}
use Rattle.widget_boxes.specs.Titles.{last_columns, without_first, without_last, shown_width, side_of, aligned, from_left, from_right}
use Rattle.widget_boxes.specs.Titles.{from_outside, from_centre}
use Rattle.widget_boxes.specs.Boxes.{IsBoxArea, IsNarrowBox, RendersBlock, RendersTitled, row_titles, placed_titles}
use Rattle.widget_boxes.specs.Boxes.{titles_area, lines_placed}
use Rattle.widget_boxes.specs.Framed.{inner_if, RendersIfBox, IsFramed, RendersStateInFrame}
use Rattle.widget_boxes.specs.Apart.{StandsApart, IsReadyIn}
use Rattle.widget_boxes.proofs.{BoxLemmas.titles-inside, BoxLemmas.box-area, PlainBoxLemmas.plain-cell, PlainBoxLemmas.narrow-row}
use Rattle.widget_boxes.proofs.{TitleLemmas.last-inside, TitleLemmas.rest-inside, TitleLemmas.front-inside}
use Rattle.widget_boxes.proofs.{InnerLemmas.bare-or, InnerLemmas.clipped, FrameLemmas.inner-in}
use Rattle.widget_boxes.proofs.ApartLemmas.{ready-apart, ready-stays, ready-styled, ready-inside, apart-part, apart-around}

-- ---- titles stand in their row

module _ (row : Rect) where
  abbrev IsIn : PlacedTitle → Type 0
  IsIn t = IsInside t.area row

  none-in : (t : Bool) (ts : List PlacedTitle) → All IsIn ts → All IsIn (if t then [] else ts)
  none-in true ts all = All-nil IsIn
  none-in false ts all = all

  first-in : (n : ℕ) (r : Rect) → IsInside r row → IsInside (first_columns n r) row
  first-in n r inside p h = let l = h.left in let e = h.right in let t = h.top in let b = h.bottom in
      inside p (record { left = l; right = omega arith; top = t; bottom = b })

  left-in : (r : Rect) (ls : List LineData) → IsInside r row → All IsIn (from_left r ls)
  left-in r [] inside = All-nil IsIn
  left-in r (l ∷ ls) inside =
      none-in (r.width == 0) _ (All-cons IsIn (title_at l (first_columns (title_width l) r))
      (from_left (without_first (title_width l + 1) r) ls) (first-in (title_width l) r inside)
      (left-in (without_first (title_width l + 1) r) ls (λ p h. inside p (rest-inside (title_width l + 1) r p h))))

  right-in : (r : Rect) (ls : List LineData) → IsInside r row → All IsIn (from_right r ls)
  right-in r [] inside = All-nil IsIn
  right-in r (l ∷ ls) inside =
      none-in (r.width == 0) _ (All-cons IsIn (title_at l (last_columns (title_width l) r))
      (from_right (without_last (title_width l + 1) r) ls) (λ p h. inside p (last-inside (title_width l) r p h))
      (right-in (without_last (title_width l + 1) r) ls (λ p h. inside p (front-inside (title_width l + 1) r p h))))

  outside-in : (n : ℕ) (r : Rect) (ls : List LineData) → IsInside r row → All IsIn (from_outside n r ls)
  outside-in n r [] inside = All-nil IsIn
  outside-in n r (l ∷ ls) inside =
      none-in (r.width == 0) _ (All-cons IsIn (title_at (aligned (side_of n) l) (first_columns (shown_width n r l) r))
      (from_outside (n - shown_width n r l - 1) (without_first (shown_width n r l + 1) r) ls)
      (first-in (shown_width n r l) r inside)
      (outside-in (n - shown_width n r l - 1) (without_first (shown_width n r l + 1) r) ls
      (λ p h. inside p (rest-inside (shown_width n r l + 1) r p h))))

  either-in : (t : Bool) (ts us : List PlacedTitle) → All IsIn ts → All IsIn us → All IsIn (if t then ts else us)
  either-in true ts us a b = a
  either-in false ts us a b = b

  centre-in : (r : Rect) (ls : List LineData) → IsInside r row → All IsIn (from_centre r ls)
  centre-in r ls inside =
      either-in (nat_le (titles_width ls) r.width) _ _
      (left-in (without_first ((r.width - titles_width ls) / 2) r) ls
      (λ p h. inside p (rest-inside ((r.width - titles_width ls) / 2) r p h)))
      (outside-in ((titles_width ls - r.width) / 2) r ls inside)

  row-in : (b : Block) (r : Rect) (position : TitlePosition) → IsInside r row → All IsIn (row_titles b r position)
  row-in b r position inside =
      All-append IsIn (from_left r (lines_placed b position Left b.titles.items)) _
      (left-in r (lines_placed b position Left b.titles.items) inside)
      (All-append IsIn (from_centre r (lines_placed b position Center b.titles.items))
      (from_right r (lines_placed b position Right (reverse b.titles.items)))
      (centre-in r (lines_placed b position Center b.titles.items) inside)
      (right-in r (lines_placed b position Right (reverse b.titles.items)) inside))

-- ---- a narrow box on plain cells of an area

abbrev IsNarrowPlaced : PlacedTitle → Type 0
IsNarrowPlaced t = EachLineGrapheme TakesOneColumn t.line

title-over : (q : Rect) (style : Style) (t : PlacedTitle) (old new : BufferData) → IsNarrowPlaced t → IsInside t.area q
    → IsPlainOver q old → RendersTitle style t old new → IsPlainOver q new
title-over q style t old new narrow inside plain is =
    line-plain t.area q is.laid new (λ p in_own here. inside p here) (styled-plain t.area q style old is.laid plain is.styled)
    t.line narrow is.line

titles-over : (q : Rect) (style : Style) (ts : List PlacedTitle) (old new : BufferData) → All IsNarrowPlaced ts → All (IsIn q) ts
    → IsPlainOver q old → RendersTitles style ts old new → IsPlainOver q new
titles-over q style [] old new narrow inside plain same = rw same plain
titles-over q style (t ∷ ts) old new narrow inside plain is =
    titles-over q style ts is.between new (All-tail IsNarrowPlaced t ts narrow) (All-tail (IsIn q) t ts inside)
    (title-over q style t old is.between (All-head IsNarrowPlaced t ts narrow) (All-head (IsIn q) t ts inside) plain is.first)
    is.second

titled-over : (b : Block) (r q : Rect) (old new : BufferData) → IsNarrowBox b → IsBoxArea r → IsInside r q → IsPlainOver q old
    → RendersTitled b r old new → IsPlainOver q new
titled-over b r q old new is some inside plain titled =
    let framed : IsPlainOver q titled.framed = λ p in_framed here.
    let in_own : HasPosition old.area p = subst (λ a. HasPosition a p) titled.frame.area in_framed in
    subst IsPlain (sym (titled.frame.at p in_own)) (plain-cell b r p (cell_in old p) is.symbols (plain p in_own here)) in
    let top_ = titles_area b r Top in let bottom_ = titles_area b r Bottom in
    titles-over q b.titles_style (placed_titles b r) titled.framed new
    (All-append IsNarrowPlaced (row_titles b top_ Top) (row_titles b bottom_ Bottom)
    (narrow-row b top_ Top is.titles) (narrow-row b bottom_ Bottom is.titles))
    (All-append (IsIn q) (row_titles b top_ Top) (row_titles b bottom_ Bottom)
    (row-in q b top_ Top (λ p h. inside p (titles-inside b r Top some p h)))
    (row-in q b bottom_ Bottom (λ p h. inside p (titles-inside b r Bottom some p h))))
    framed titled.titles

pub clip-in : (a b : Rect) → IsInside (intersected a b) a
clip-in a b p h = let l = h.left in let e = h.right in let t = h.top in let d = h.bottom in
    record { left = omega arith; right = omega arith; top = omega arith; bottom = omega arith }

box-over : (b : Block) (q : Rect) (old new : BufferData) → IsNarrowBox b → EdgesFit old.area → IsPlainOver q old
    → RendersBlock b q old new → IsPlainOver q new
box-over b q old new is edges plain renders =
    let part = intersected q old.area in
    bare-or part (λ none. rw (renders.titled.nothing none) plain) (λ wide high.
    titled-over b part q old new is (box-area q old.area part (clipped q old.area edges wide high)) (clip-in q old.area) plain
    (renders.titled.part wide high))

pub box-ready : (o : Option Block) (q : Rect) (old new : BufferData) → IfSome o IsNarrowBox → IsReadyIn q old
    → RendersIfBox o q old new → IsReadyIn q new
box-ready None q old new is ready same = rw same ready
box-ready (Some b) q old new is ready renders =
    ready-stays q old new ready renders.within (box-over b q old new is ready.edges ready.plain renders)

pub frame-ready : (style : Style) (o : Option Block) (q : Rect) (old new : BufferData) → IfSome o IsNarrowBox → IsReadyIn q old
    → IsFramed style o q old new → IsReadyIn q new
frame-ready style o q old new is ready frame =
    box-ready o q frame.laid new is (ready-styled q style old frame.laid ready frame.styled) frame.boxed

-- what changes within an area does so within the part of it that the buffer has
pub within-part : (area : Rect) (old new : BufferData) → ChangesWithin area old new
    → ChangesWithin (intersected area old.area) old new
within-part area old new is = record {
  same_area = is.same_area;
  same_room = is.same_room;
  outside = λ p in_own off. is.outside p in_own (λ here.
      let l = in_own.left in let e = in_own.right in let t = in_own.top in let b = in_own.bottom in
      let l2 = here.left in let e2 = here.right in let t2 = here.top in let b2 = here.bottom in
      off (record { left = omega arith; right = omega arith; top = omega arith; bottom = omega arith }));
}

-- ---- a widget in its style and its box

pub frame-apart : {S : Type 0} (style : Style) (o : Option Block) (f : S → S → Rect → BufferData → BufferData → Type 0) (s t : S)
    (area : Rect) (old new : BufferData) → IfSome o IsNarrowBox → IsReadyIn area old
    → ((framed : BufferData) → IsReadyIn (inner_if o (intersected area old.area)) framed
    → f s t (inner_if o (intersected area old.area)) framed new
    → ChangesWithin (inner_if o (intersected area old.area)) framed new
    × StandsApart (inner_if o (intersected area old.area)) new)
    → RendersStateInFrame style o f s t area old new → StandsApart area new
frame-apart style o f s t area old new box ready keeps is =
    let part = intersected area old.area in
    bare-or part (λ none. rw (is.parts.nothing none) (ready-apart area old ready)) (λ wide high.
    let there = is.parts.part wide high in
    let in_part = ready-inside area part old (clip-in area old.area) ready in
    let framed = frame-ready style o part old there.framed box in_part there.frame in
    let some = box-area area old.area part (clipped area old.area ready.edges wide high) in
    let of_part : StandsApart part new = bare-or (inner_if o part)
    (λ none. rw (there.none none).0 (ready-apart part there.framed framed))
    (λ w h.
    let inside = (inner-in o part some w h).inside in
    let done = keeps there.framed (ready-inside part (inner_if o part) there.framed inside framed) (there.inside w h) in
    apart-part part (inner_if o part) there.framed new inside framed done.0 done.1) in
    apart-around area part old new (clip-in area old.area) (ready-apart area old ready) (within-part area old new is.within) of_part)
