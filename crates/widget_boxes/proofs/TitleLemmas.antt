-- Titles rendered in turn: what is done so far, and what is left.
use Rattle.std.proofs.Common.{◌≡◌, ℕ, ◌+◌, ◌-◌, ◌<◌, ◌≤◌, ◌==◌, Bool, true, false, if◌then◌else◌, nat_le, ◌/◌, List, [], ◌∷◌}
use Rattle.std.proofs.Common.{◌++◌, reverse, length, take, drop, slice_index_or, refl, sym, ap, subst, ◌∙◌, arith}
use Rattle.std.specs.List.{list_any}
use Rattle.std.proofs.lemmas.{Bool.or_parts, Bool.Decides.nat_tests, List.take_more, List.reverse-append}
use Rattle.std.proofs.lemmas.{List.Folds.list_any-append}
use Rattle.ratatui_core.specs.{Layout.Rect, Layout.IsInside, declared.layout.HorizontalAlignment.HorizontalAlignment}
use Rattle.ratatui_core.specs.declared.layout.HorizontalAlignment.TheVariants.{Left, Center, Right}
use Rattle.ratatui_core.specs.{Style.Style, Text.LineData, Buffer.BufferData, Widgets.ChangesWithin}
use Rattle.ratatui_core.proofs.{BufferLemmas.within-wider, WidgetLemmas.within-then}
use Rattle.ratatui_core.proofs.WidgetLemmas.{element-next}
use Rattle.widget_boxes.specs.{declared.block.Block.Block, declared.title.Title.Title, declared.title.TitlePosition.TitlePosition}
use Rattle.widget_boxes.specs.declared.title.TitlePosition.TheVariants.{Top, Bottom}
use Rattle.widget_boxes.specs.Titles.{PlacedTitle, title_at, title_width, titles_width, from_centre, first_columns, last_columns}
use Rattle.widget_boxes.specs.Titles.{without_first, without_last, from_left, from_right, from_outside, shown_width, side_of}
use Rattle.widget_boxes.specs.Titles.{aligned, RendersTitle, RendersTitles}
use Rattle.widget_boxes.specs.Boxes.{is_in_row, has_title, is_placed, lines_placed, row_titles, placed_titles, titles_area}

-- to render what is left over what stands now is to render all over what stood before
abbrev pub Finishes : Style → List PlacedTitle → List PlacedTitle → BufferData → BufferData → Type 0
Finishes style left all old now = (new : BufferData) → RendersTitles style left now new → RendersTitles style all old new

-- one title more
pub finishes-next : (style : Style) (left rest all : List PlacedTitle) (t : PlacedTitle) (old now mid : BufferData)
    → left ≡ t ∷ rest → Finishes style left all old now → RendersTitle style t now mid → Finishes style rest all old mid
finishes-next style left rest all t old now mid is finishes made = λ new others.
    finishes new (subst (λ ts. RendersTitles style ts now new) (sym is) (record { between = mid; first = made; second = others }))

-- titles after titles
pub titles-then : (style : Style) (ts us : List PlacedTitle) (old mid new : BufferData) → RendersTitles style ts old mid
    → RendersTitles style us mid new → RendersTitles style (ts ++ us) old new
titles-then style [] us old mid new first second = subst (λ s. RendersTitles style us s new) first second
titles-then style (t ∷ ts) us old mid new first second = record {
  between = first.between;
  first = first.first;
  second = titles-then style ts us first.between mid new first.second second;
}

-- the lines of the titles from one on
module _ (b : Block) (position : TitlePosition) (alignment : HorizontalAlignment) where
  abbrev lines : List Title → List LineData
  lines titles = lines_placed b position alignment titles

  lines-placed : (title : Title) (titles : List Title) → is_placed b position alignment title ≡ true
      → lines (title ∷ titles) ≡ title.line ∷ lines titles
  lines-placed title titles is = rw is refl

  lines-other : (title : Title) (titles : List Title) → is_placed b position alignment title ≡ false
      → lines (title ∷ titles) ≡ lines titles
  lines-other title titles is = rw is refl

  module _ (titles : List Title) (i : ℕ) (title : Title) (lt : i < length titles)
      (at : title ≡ slice_index_or titles i title) where
    pub lines-next : is_placed b position alignment title ≡ true
        → lines (drop i titles) ≡ title.line ∷ lines (drop (i + 1) titles)
    lines-next is = ap lines (element-next titles i title lt at) ∙ lines-placed title (drop (i + 1) titles) is

    take-is : reverse (take (i + 1) titles) ≡ title ∷ reverse (take i titles)
    take-is = ap reverse (take_more titles i title lt) ∙ reverse-append (take i titles) (slice_index_or titles i title ∷ [])
        ∙ ap (λ t. t ∷ reverse (take i titles)) (sym at)

    pub lines-before : is_placed b position alignment title ≡ true
        → lines (reverse (take (i + 1) titles)) ≡ title.line ∷ lines (reverse (take i titles))
    lines-before is = ap lines take-is ∙ lines-placed title (reverse (take i titles)) is

  -- no title stands in the row
  pub lines-none : (titles : List Title) → list_any (is_in_row b.titles_position position) titles ≡ false → lines titles ≡ []
  lines-none [] none = refl
  lines-none (title ∷ titles) none =
      let both = or_parts (is_in_row b.titles_position position title)
      (list_any (is_in_row b.titles_position position) titles) none in
      lines-other title titles (rw both.0 refl) ∙ lines-none titles both.1

-- nor do the titles in the other order
pub none-back : (f : Title → Bool) (titles : List Title) → list_any f titles ≡ false → list_any f (reverse titles) ≡ false
none-back f [] none = refl
none-back f (title ∷ titles) none =
    let both = or_parts (f title) (list_any f titles) none in
    let front = none-back f titles both.1 in
    let is = ap (list_any f) (reverse-append (title ∷ []) titles) ∙ list_any-append f (reverse titles) (title ∷ []) in
    is ∙ rw (front, both.0) refl

-- parts of an area
pub last-inside : (n : ℕ) (r : Rect) → IsInside (last_columns n r) r
last-inside n r p h = let l = h.left in let e = h.right in let t = h.top in let b = h.bottom in
    record { left = omega arith; right = omega arith; top = t; bottom = b }

pub rest-inside : (n : ℕ) (r : Rect) → IsInside (without_first n r) r
rest-inside n r p h = let l = h.left in let e = h.right in let t = h.top in let b = h.bottom in
    record { left = omega arith; right = omega arith; top = t; bottom = b }

pub front-inside : (n : ℕ) (r : Rect) → IsInside (without_last n r) r
front-inside n r p h = let l = h.left in let e = h.right in let t = h.top in let b = h.bottom in
    record { left = l; right = omega arith; top = t; bottom = b }

-- a row that has columns
not-zero : (n : ℕ) → 0 < n → (n == 0) ≡ false
not-zero n lt = grind (arith, nat_tests)

-- one title more, in an area that has columns
module _ (style : Style) (r next area : Rect) (l : LineData) (ls rest : List LineData) (all : List PlacedTitle)
    (old now mid : BufferData) (is : ls ≡ l ∷ rest) (some : 0 < r.width) where
  pub left-next : area ≡ first_columns (title_width l) r → next ≡ without_first (title_width l + 1) r
      → Finishes style (from_left r ls) all old now → RendersTitle style (title_at l area) now mid
      → Finishes style (from_left next rest) all old mid
  left-next stands after finishes made =
      let test = not-zero r.width some in
      finishes-next style (from_left r ls) (from_left next rest) all (title_at l area) old now mid
      (rw (is, test, stands, after) refl) finishes made

  pub right-next : area ≡ last_columns (title_width l) r → next ≡ without_last (title_width l + 1) r
      → Finishes style (from_right r ls) all old now → RendersTitle style (title_at l area) now mid
      → Finishes style (from_right next rest) all old mid
  right-next stands after finishes made =
      let test = not-zero r.width some in
      finishes-next style (from_right r ls) (from_right next rest) all (title_at l area) old now mid
      (rw (is, test, stands, after) refl) finishes made

  pub outside-next : (n m : ℕ) → area ≡ first_columns (shown_width n r l) r → next ≡ without_first (shown_width n r l + 1) r
      → m ≡ n - shown_width n r l - 1 → Finishes style (from_outside n r ls) all old now
      → RendersTitle style (title_at (aligned (side_of n) l) area) now mid → Finishes style (from_outside m next rest) all old mid
  outside-next n m stands after less finishes made =
      let test = not-zero r.width some in
      finishes-next style (from_outside n r ls) (from_outside m next rest) all (title_at (aligned (side_of n) l) area) old now mid
      (rw (is, test, stands, after, less) refl) finishes made

-- a box without titles
by-test : (t : Bool) (a b : List PlacedTitle) → a ≡ [] → b ≡ [] → (if t then a else b) ≡ []
by-test true a b ea eb = ea
by-test false a b ea eb = eb

pub centre-none : (r : Rect) → from_centre r [] ≡ []
centre-none r = by-test (nat_le (titles_width []) r.width) (from_left (without_first ((r.width - titles_width []) / 2) r) [])
    (from_outside ((titles_width [] - r.width) / 2) r []) refl refl

row-empty : (b : Block) (row : Rect) (position : TitlePosition) → lines_placed b position Left b.titles.items ≡ []
    → lines_placed b position Center b.titles.items ≡ []
    → lines_placed b position Right (reverse b.titles.items) ≡ [] → row_titles b row position ≡ []
row-empty b row position left centre right = rw (left, centre, right, centre-none row) refl

untitled-row : (b : Block) (row : Rect) (position : TitlePosition) → b.titles.items ≡ [] → row_titles b row position ≡ []
untitled-row b row position none =
    row-empty b row position (ap (lines_placed b position Left) none) (ap (lines_placed b position Center) none)
    (ap (λ ts. lines_placed b position Right (reverse ts)) none)

pub titles-none : (b : Block) (r : Rect) (s : BufferData) → b.titles.items ≡ []
    → RendersTitles b.titles_style (placed_titles b r) s s
titles-none b r s none =
    let first = untitled-row b (titles_area b r Top) Top none in
    let last = untitled-row b (titles_area b r Bottom) Bottom none in
    let at : placed_titles b r ≡ [] = ap (λ ts. ts ++ row_titles b (titles_area b r Bottom) Bottom) first ∙ last in
    subst (λ ts. RendersTitles b.titles_style ts s s) (sym at) refl

-- no title stands in a row
pub row-none : (b : Block) (row : Rect) (position : TitlePosition) → has_title b position ≡ false → row_titles b row position ≡ []
row-none b row position none =
    row-empty b row position (lines-none b position Left b.titles.items none) (lines-none b position Center b.titles.items none)
    (lines-none b position Right (reverse b.titles.items) (none-back (is_in_row b.titles_position position) b.titles.items none))

-- a title over a part of what is left of a row
pub title-within : (row left : Rect) (n : ℕ) (old now mid : BufferData) → n ≤ left.width → IsInside left row
    → ChangesWithin row old now → ChangesWithin (record left { width = n }) now mid → ChangesWithin row old mid
title-within row left n old now mid le inside so_far made =
    within-then row old now mid so_far
    (within-wider (record left { width = n }) row now mid (λ p h. let l = h.left in let e = h.right in let t = h.top in
    let b = h.bottom in inside p (record { left = l; right = omega arith; top = t; bottom = b })) made)

pub no-titles : (titles : List Title) → (length titles == 0) ≡ true → titles ≡ []
no-titles [] e = refl
no-titles (t ∷ ts) e = absurd (grind (arith, nat_tests, e))
