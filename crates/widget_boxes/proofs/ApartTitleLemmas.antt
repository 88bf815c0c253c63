-- Titles that a screen can show, one beside the other in a row that is ready, leave it apart.
use Rattle.std.proofs.Common.{◌≡◌, ℕ, ◌+◌, ◌-◌, ◌/◌, ◌<◌, ◌==◌, ◌&&◌, ◌⊎◌, ⊎_elim, Bool, true, false, if◌then◌else◌}
use Rattle.std.proofs.Common.{nat_le, List, [], ◌∷◌, ◌++◌, reverse, filter, unwrap_or, All, refl, sym, subst, arith, append-nil, Option, Some}
use Rattle.std.proofs.lemmas.{List.reverse-append}
use Rattle.std.proofs.lemmas.List.Elements.{All-nil, All-cons, All-head, All-tail, All-append, All-map, All-filter}
use Rattle.ratatui_core.specs.Layout.{Rect, Position, HasPosition, IsInside, intersected}
use Rattle.ratatui_core.specs.declared.layout.HorizontalAlignment.{HorizontalAlignment}
use Rattle.ratatui_core.specs.declared.layout.HorizontalAlignment.TheVariants.{Left, Center, Right}
use Rattle.ratatui_core.specs.{Style.Style, Text.LineData, Widgets.ChangesWithin}
use Rattle.ratatui_core.specs.Buffer.{BufferData, cell_in, IsPlain, IsPlainOver, MakesEach}
use Rattle.ratatui_core.proofs.BufferLemmas.{within-same, within-wider, position-false}
use Rattle.ratatui_core.proofs.WidgetLemmas.{within-then, within-styled}
use Rattle.widget_boxes.specs.{declared.block.Block.Block, declared.title.Title.Title, declared.title.TitlePosition.TitlePosition}
use Rattle.widget_boxes.specs.declared.title.TitlePosition.TheVariants.{Top, Bottom}
use Rattle.widget_boxes.specs.Titles.{PlacedTitle, RendersTitle, RendersTitles, title_at, title_width, titles_width, first_columns}
use Rattle.widget_boxes.specs.Titles.{last_columns, without_first, without_last, shown_width, side_of, aligned, from_left, from_right}
use Rattle.widget_boxes.specs.Titles.{from_outside, from_centre, is_same_alignment}
use Rattle.widget_boxes.specs.Boxes.{is_in_row, is_placed, lines_placed, row_titles, titles_area, has_title, box_cell, IsBoxArea}
use Rattle.widget_boxes.specs.Boxes.{RendersTitled, RendersBlock}
use Rattle.widget_boxes.specs.Apart.{StandsApart, IsReadyIn, IsShowable, IsShowableAs, IsShowableTitle, AreAlike, IsShowableBox}
use Rattle.widget_boxes.specs.Apart.{HasTitleRows}
use Rattle.widget_boxes.proofs.TitleLemmas.{last-inside, rest-inside, front-inside, centre-none, row-none}
use Rattle.widget_boxes.proofs.{PlainBoxLemmas.plain-cell, BoxLemmas.titles-inside, BoxLemmas.box-area, InnerLemmas.bare-or}
use Rattle.widget_boxes.proofs.{InnerLemmas.clipped, ApartBoxLemmas.clip-in, ApartBoxLemmas.within-part}
use Rattle.widget_boxes.proofs.ApartLemmas.{ready-apart, ready-stays, ready-styled, ready-inside, ready-beside, apart-around}
use Rattle.widget_boxes.proofs.ApartLemmas.{apart-part, line-apart}

-- each title lies in what is left of a row, and leaves what is left to the others
abbrev pub AreSpread : Rect → List PlacedTitle → Type 0
AreSpread r [] = Unit {0}
AreSpread r (t ∷ ts) =
    (rest : Rect) × IsInside t.area r × IsInside rest r
    × ((p : Position) → HasPosition rest p → HasPosition t.area p → ⊥) × AreSpread rest ts

none-spread : (t : Bool) (r : Rect) (ts : List PlacedTitle) → AreSpread r ts → AreSpread r (if t then [] else ts)
none-spread true r ts all = tt
none-spread false r ts all = all

either-spread : (t : Bool) (r : Rect) (ts us : List PlacedTitle) → AreSpread r ts → AreSpread r us
    → AreSpread r (if t then ts else us)
either-spread true r ts us a b = a
either-spread false r ts us a b = b

spread-wider : (q r : Rect) (ts : List PlacedTitle) → IsInside q r → AreSpread q ts → AreSpread r ts
spread-wider q r [] inside all = tt
spread-wider q r (t ∷ ts) inside all =
    (all.0, (λ p h. inside p (all.1 p h)), (λ p h. inside p (all.2 p h)), all.3, all.4)

first-inside : (n : ℕ) (r : Rect) → IsInside (first_columns n r) r
first-inside n r p h = let l = h.left in let e = h.right in let t = h.top in let b = h.bottom in
    record { left = l; right = omega arith; top = t; bottom = b }

first-apart : (n : ℕ) (r : Rect) (p : Position) → HasPosition (without_first (n + 1) r) p → HasPosition (first_columns n r) p → ⊥
first-apart n r p a b = let l = a.left in let e = b.right in omega arith

last-apart : (n : ℕ) (r : Rect) (p : Position) → HasPosition (without_last (n + 1) r) p → HasPosition (last_columns n r) p → ⊥
last-apart n r p a b = let l = b.left in let e = a.right in let f = b.right in omega arith

spread-left : (r : Rect) (ls : List LineData) → AreSpread r (from_left r ls)
spread-left r [] = tt
spread-left r (l ∷ ls) =
    let n = title_width l in
    none-spread (r.width == 0) r _
    (without_first (n + 1) r, first-inside n r, rest-inside (n + 1) r, first-apart n r, spread-left (without_first (n + 1) r) ls)

spread-right : (r : Rect) (ls : List LineData) → AreSpread r (from_right r ls)
spread-right r [] = tt
spread-right r (l ∷ ls) =
    let n = title_width l in
    none-spread (r.width == 0) r _
    (without_last (n + 1) r, last-inside n r, front-inside (n + 1) r, last-apart n r, spread-right (without_last (n + 1) r) ls)

spread-outside : (m : ℕ) (r : Rect) (ls : List LineData) → AreSpread r (from_outside m r ls)
spread-outside m r [] = tt
spread-outside m r (l ∷ ls) =
    let n = shown_width m r l in
    none-spread (r.width == 0) r _ (
      without_first (n + 1) r,
      first-inside n r,
      rest-inside (n + 1) r,
      first-apart n r,
      spread-outside (m - n - 1) (without_first (n + 1) r) ls,
    )

spread-centre : (r : Rect) (ls : List LineData) → AreSpread r (from_centre r ls)
spread-centre r ls =
    let k = (r.width - titles_width ls) / 2 in
    either-spread (nat_le (titles_width ls) r.width) r _ _
    (spread-wider (without_first k r) r (from_left (without_first k r) ls) (rest-inside k r) (spread-left (without_first k r) ls))
    (spread-outside ((titles_width ls - r.width) / 2) r ls)

-- ---- titles of showable lines

abbrev pub IsShownTitle : PlacedTitle → Type 0
IsShownTitle t = IsShowable t.line

-- a line that can be shown however it is aligned
abbrev IsAnyhow : LineData → Type 0
IsAnyhow l = (alignment : Option HorizontalAlignment) → IsShowableAs alignment l

none-shown : (t : Bool) (ts : List PlacedTitle) → All IsShownTitle ts → All IsShownTitle (if t then [] else ts)
none-shown true ts all = All-nil IsShownTitle
none-shown false ts all = all

either-shown : (t : Bool) (ts us : List PlacedTitle) → All IsShownTitle ts → All IsShownTitle us
    → All IsShownTitle (if t then ts else us)
either-shown true ts us a b = a
either-shown false ts us a b = b

shown-left : (r : Rect) (ls : List LineData) → All IsAnyhow ls → All IsShownTitle (from_left r ls)
shown-left r [] all = All-nil IsShownTitle
shown-left r (l ∷ ls) all =
    none-shown (r.width == 0) _ (All-cons IsShownTitle (title_at l (first_columns (title_width l) r))
    (from_left (without_first (title_width l + 1) r) ls) ((All-head IsAnyhow l ls all) l.alignment)
    (shown-left (without_first (title_width l + 1) r) ls (All-tail IsAnyhow l ls all)))

shown-right : (r : Rect) (ls : List LineData) → All IsAnyhow ls → All IsShownTitle (from_right r ls)
shown-right r [] all = All-nil IsShownTitle
shown-right r (l ∷ ls) all =
    none-shown (r.width == 0) _ (All-cons IsShownTitle (title_at l (last_columns (title_width l) r))
    (from_right (without_last (title_width l + 1) r) ls) ((All-head IsAnyhow l ls all) l.alignment)
    (shown-right (without_last (title_width l + 1) r) ls (All-tail IsAnyhow l ls all)))

aligned-shown : (a : HorizontalAlignment) (l : LineData) → IsAnyhow l → IsShowable (aligned a l)
aligned-shown a l any = let is = any (Some a) in record { graphemes = is.graphemes; spans = is.spans }

shown-outside : (m : ℕ) (r : Rect) (ls : List LineData) → All IsAnyhow ls → All IsShownTitle (from_outside m r ls)
shown-outside m r [] all = All-nil IsShownTitle
shown-outside m r (l ∷ ls) all =
    none-shown (r.width == 0) _
    (All-cons IsShownTitle (title_at (aligned (side_of m) l) (first_columns (shown_width m r l) r))
    (from_outside (m - shown_width m r l - 1) (without_first (shown_width m r l + 1) r) ls)
    (aligned-shown (side_of m) l (All-head IsAnyhow l ls all))
    (shown-outside (m - shown_width m r l - 1) (without_first (shown_width m r l + 1) r) ls (All-tail IsAnyhow l ls all)))

shown-centre : (r : Rect) (ls : List LineData) → All IsAnyhow ls → All IsShownTitle (from_centre r ls)
shown-centre r ls all =
    either-shown (nat_le (titles_width ls) r.width) _ _
    (shown-left (without_first ((r.width - titles_width ls) / 2) r) ls all)
    (shown-outside ((titles_width ls - r.width) / 2) r ls all)

-- ---- they leave their row apart

title-apart : (style : Style) (t : PlacedTitle) (old new : BufferData) → IsShownTitle t → IsReadyIn t.area old
    → RendersTitle style t old new → StandsApart t.area new × ChangesWithin t.area old new
title-apart style t old new shows ready is =
    let laid = ready-styled t.area style old is.laid ready is.styled in (
      line-apart t.line t.area is.laid new shows laid is.line,
      within-then t.area old is.laid new (within-styled t.area t.area style old is.laid (λ p has h. h) is.styled) is.line.within,
    )

pub titles-apart : (row : Rect) (style : Style) (ts : List PlacedTitle) (r : Rect) (old new : BufferData) → All IsShownTitle ts
    → AreSpread r ts → IsInside r row → StandsApart row old → IsReadyIn r old → RendersTitles style ts old new
    → StandsApart row new × ChangesWithin row old new
titles-apart row style [] r old new shows spread inside apart ready same = rw same (apart, within-same row old)
titles-apart row style (t ∷ ts) r old new shows spread inside apart ready is =
    let rest = spread.0 in
    let here = title-apart style t old is.between (All-head IsShownTitle t ts shows) (ready-inside r t.area old spread.1 ready)
    is.first in
    let in_row : IsInside t.area row = λ (p : Position) h. inside p (spread.1 p h) in
    let others = titles-apart row style ts rest is.between new (All-tail IsShownTitle t ts shows) spread.4
    (λ p h. inside p (spread.2 p h)) (apart-around row t.area old is.between in_row apart here.1 here.0)
    (ready-beside r t.area rest old is.between ready here.1 here.0 spread.1 spread.2 spread.3) is.second in
    (others.0, within-then row old is.between new (within-wider t.area row old is.between in_row here.1) others.1)

-- ---- titles of a row that are aligned alike

abbrev IsAlike : Block → TitlePosition → HorizontalAlignment → Title → Type 0
IsAlike b position a title =
    is_in_row b.titles_position position title ≡ true → unwrap_or title.line.alignment b.titles_alignment ≡ a

placed-none : (t : Bool) (x a other : HorizontalAlignment) → (t ≡ true → x ≡ a) → is_same_alignment a other ≡ false
    → (t && is_same_alignment x other) ≡ false
placed-none true x a other same differ = rw (same refl) differ
placed-none false x a other same differ = refl

module _ (b : Block) (position : TitlePosition) (a other : HorizontalAlignment) (differ : is_same_alignment a other ≡ false) where
  other-none : (titles : List Title) → All (IsAlike b position a) titles → lines_placed b position other titles ≡ []
  other-none [] all = refl
  other-none (title ∷ titles) all =
      let off : is_placed b position other title ≡ false =
      placed-none (is_in_row b.titles_position position title) (unwrap_or title.line.alignment b.titles_alignment) a other
      (All-head (IsAlike b position a) title titles all) differ in
      rw off (other-none titles (All-tail (IsAlike b position a) title titles all))

all-back : (P : Title → Type 0) (ts : List Title) → All P ts → All P (reverse ts)
all-back P [] all = all
all-back P (t ∷ ts) all =
    subst (All P) (sym (reverse-append (t ∷ []) ts))
    (All-append P (reverse ts) (t ∷ []) (all-back P ts (All-tail P t ts all))
    (All-cons P t [] (All-head P t ts all) (All-nil P)))

lines-shown : (b : Block) (position : TitlePosition) (a : HorizontalAlignment) (ts : List Title) → All IsShowableTitle ts
    → All IsAnyhow (lines_placed b position a ts)
lines-shown b position a ts all =
    All-map IsAnyhow (λ (t : Title). t.line) (filter (is_placed b position a) ts)
    (All-filter (is_placed b position a) IsShowableTitle ts all)

module _ (b : Block) (position : TitlePosition) (row : Rect) where
  abbrev of : HorizontalAlignment → List LineData
  of a = lines_placed b position a b.titles.items

  abbrev back : HorizontalAlignment → List LineData
  back a = lines_placed b position a (reverse b.titles.items)

  only-left : of Center ≡ [] → back Right ≡ [] → row_titles b row position ≡ from_left row (of Left)
  only-left c r = rw (c, r, centre-none row) (append-nil (from_left row (of Left)))

  only-centre : of Left ≡ [] → back Right ≡ [] → row_titles b row position ≡ from_centre row (of Center)
  only-centre l r = rw (l, r) (append-nil (from_centre row (of Center)))

  only-right : of Left ≡ [] → of Center ≡ [] → row_titles b row position ≡ from_right row (back Right)
  only-right l c = rw (l, c, centre-none row) refl

  alike-apart : (a : HorizontalAlignment) (style : Style) (old new : BufferData) → All (IsAlike b position a) b.titles.items
      → All IsShowableTitle b.titles.items → IsReadyIn row old → RendersTitles style (row_titles b row position) old new
      → StandsApart row new × ChangesWithin row old new
  alike-apart Left style old new alike shows ready is =
      let e = only-left (other-none b position Left Center refl b.titles.items alike)
      (other-none b position Left Right refl (reverse b.titles.items) (all-back (IsAlike b position Left) b.titles.items alike)) in
      titles-apart row style (from_left row (of Left)) row old new
      (shown-left row (of Left) (lines-shown b position Left b.titles.items shows)) (spread-left row (of Left)) (λ p h. h)
      (ready-apart row old ready) ready (subst (λ ts. RendersTitles style ts old new) e is)
  alike-apart Center style old new alike shows ready is =
      let e = only-centre (other-none b position Center Left refl b.titles.items alike)
      (other-none b position Center Right refl (reverse b.titles.items) (all-back (IsAlike b position Center) b.titles.items alike)) in
      titles-apart row style (from_centre row (of Center)) row old new
      (shown-centre row (of Center) (lines-shown b position Center b.titles.items shows)) (spread-centre row (of Center))
      (λ p h. h) (ready-apart row old ready) ready (subst (λ ts. RendersTitles style ts old new) e is)
  alike-apart Right style old new alike shows ready is =
      let e = only-right (other-none b position Right Left refl b.titles.items alike)
      (other-none b position Right Center refl b.titles.items alike) in
      titles-apart row style (from_right row (back Right)) row old new
      (shown-right row (back Right) (lines-shown b position Right (reverse b.titles.items)
      (all-back IsShowableTitle b.titles.items shows))) (spread-right row (back Right))
      (λ p h. h) (ready-apart row old ready) ready (subst (λ ts. RendersTitles style ts old new) e is)

  pub row-apart : (style : Style) (old new : BufferData) → AreAlike b position → All IsShowableTitle b.titles.items
      → IsReadyIn row old → RendersTitles style (row_titles b row position) old new
      → StandsApart row new × ChangesWithin row old new
  row-apart style old new alike shows ready is = alike-apart alike.0 style old new alike.1 shows ready is

titles-split : (style : Style) (ts us : List PlacedTitle) (old new : BufferData) → RendersTitles style (ts ++ us) old new
    → (mid : BufferData) × RendersTitles style ts old mid × RendersTitles style us mid new
titles-split style [] us old new is = (old, refl, is)
titles-split style (t ∷ ts) us old new is =
    let rest = titles-split style ts us is.between new is.second in
    (rest.0, record { between = is.between; first = is.first; second = rest.1 }, rest.2)

-- ---- a box

-- symbols of one column keep the cells of an area plain
frame-plain : (b : Block) (r q : Rect) (old framed : BufferData) → IsShowableBox b → IsPlainOver q old
    → MakesEach (box_cell b r) old framed → IsPlainOver q framed
frame-plain b r q old framed is plain made = λ p has here.
    let in_own : HasPosition old.area p = subst (λ a. HasPosition a p) made.area has in
    let kept = plain-cell b r p (cell_in old p) is.symbols (plain p in_own here) in
    subst IsPlain (sym (made.at p in_own)) kept

frame-within : (b : Block) (r : Rect) (old framed : BufferData) → MakesEach (box_cell b r) old framed → ChangesWithin r old framed
frame-within b r old framed made = record {
  same_area = made.area;
  same_room = made.room;
  outside = λ p in_own off. let beside = position-false r p off in rw beside at (made.at p in_own);
}

module _ (b : Block) (r : Rect) (old new : BufferData) (is : IsShowableBox b) (some : IsBoxArea r) (ready : IsReadyIn r old)
    (titled : RendersTitled b r old new) where
  abbrev first_row : Rect
  first_row = titles_area b r Top

  abbrev last_row_ : Rect
  last_row_ = titles_area b r Bottom

  framed-ready : IsReadyIn r titled.framed
  framed-ready = ready-stays r old titled.framed ready (frame-within b r old titled.framed titled.frame)
      (frame-plain b r r old titled.framed is ready.plain titled.frame)

  rows-differ : 1 < r.height → (p : Position) → HasPosition last_row_ p → HasPosition first_row p → ⊥
  rows-differ high p a c = let t = a.top in let e = c.bottom in let d = some.down in omega arith

  titled-apart : HasTitleRows b r → StandsApart r new
  titled-apart rows =
      let two = titles-split b.titles_style (row_titles b first_row Top) (row_titles b last_row_ Bottom) titled.framed new
      titled.titles in
      let mid = two.0 in
      let top_in = titles-inside b r Top some in
      let bottom_in = titles-inside b r Bottom some in
      let top_ready = ready-inside r first_row titled.framed top_in framed-ready in
      ⊎_elim
      (λ (none : has_title b Top ≡ false).
      let e : mid ≡ titled.framed =
      subst (λ ts. RendersTitles b.titles_style ts titled.framed mid) (row-none b first_row Top none) two.1 in
      let done = row-apart b Bottom last_row_ b.titles_style titled.framed new (is.alike Bottom) is.titles
      (ready-inside r last_row_ titled.framed bottom_in framed-ready)
      (subst (λ s. RendersTitles b.titles_style (row_titles b last_row_ Bottom) s new) e two.2) in
      apart-part r last_row_ titled.framed new bottom_in framed-ready done.1 done.0)
      (λ (more : (has_title b Bottom ≡ false) ⊎ (1 < r.height)).
      let done = row-apart b Top first_row b.titles_style titled.framed mid (is.alike Top) is.titles top_ready two.1 in
      let apart = apart-part r first_row titled.framed mid top_in framed-ready done.1 done.0 in
      ⊎_elim
      (λ (none : has_title b Bottom ≡ false).
      let e : new ≡ mid =
      subst (λ ts. RendersTitles b.titles_style ts mid new) (row-none b last_row_ Bottom none) two.2 in
      rw e apart)
      (λ (high : 1 < r.height).
      let below = row-apart b Bottom last_row_ b.titles_style mid new (is.alike Bottom) is.titles
      (ready-beside r first_row last_row_ titled.framed mid framed-ready done.1 done.0 top_in bottom_in (rows-differ high)) two.2 in
      apart-around r last_row_ mid new bottom_in apart below.1 below.0)
      more)
      rows

pub box-apart : (b : Block) (area : Rect) (old new : BufferData) → IsShowableBox b → HasTitleRows b (intersected area old.area)
    → IsReadyIn area old → RendersBlock b area old new → StandsApart area new
box-apart b area old new is rows ready renders =
    let part = intersected area old.area in
    bare-or part (λ none. rw (renders.titled.nothing none) (ready-apart area old ready)) (λ wide high.
    let some = box-area area old.area part (clipped area old.area ready.edges wide high) in
    let of_part = titled-apart b part old new is some (ready-inside area part old (clip-in area old.area) ready)
    (renders.titled.part wide high) rows in
    apart-around area part old new (clip-in area old.area) (ready-apart area old ready) (within-part area old new renders.within)
    of_part)
