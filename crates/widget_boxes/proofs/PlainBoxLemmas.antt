-- A narrow box keeps cells plain.
use Rattle.std.proofs.Common.{◌≡◌, ℕ, ◌+◌, ◌-◌, ◌/◌, ◌==◌, ◌<◌, ◌≤◌, ◌⊎◌, ⊎_elim, inl, inr, Bool, true, false, if◌then◌else◌}
use Rattle.std.proofs.Common.{nat_le, List, [], ◌∷◌, ◌++◌, filter, reverse, All, sym, subst, arith, lit<}
use Rattle.std.proofs.lemmas.{Bool.cases_lt, List.reverse-append}
use Rattle.std.proofs.lemmas.List.Elements.{All-nil, All-cons, All-head, All-tail, All-append, All-map, All-filter}
use Rattle.ratatui_core.specs.Layout.{Rect, Position, HasPosition, has_position, intersected}
use Rattle.ratatui_core.specs.declared.layout.HorizontalAlignment.{HorizontalAlignment}
use Rattle.ratatui_core.specs.declared.layout.HorizontalAlignment.TheVariants.{Left, Center, Right}
use Rattle.ratatui_core.specs.Symbols.{border_texts}
use Rattle.ratatui_core.specs.{Style.Style, Text.LineData, declared.symbols.merge.MergeStrategy.MergeStrategy}
use Rattle.ratatui_core.specs.Buffer.{BufferData, Cell, cell_in, joined, styled, with_symbol, symbol_text, width_of, text_width}
use Rattle.ratatui_core.specs.Buffer.{IsStyled, IsPlain, IsPlainFrom, PaintsPieces, pieces_at}
use Rattle.ratatui_core.proofs.BufferLemmas.{plain-styled, plain-with_symbol, plain-if, joined-columns, has-or-not, line-stays}
use Rattle.ratatui_core.proofs.BufferLemmas.{pieces-narrow, pieces-plain, over-all, from-over}
use Rattle.widget_boxes.specs.{declared.block.Block.Block, declared.title.Title.Title, declared.title.TitlePosition.TitlePosition}
use Rattle.widget_boxes.specs.declared.title.TitlePosition.TheVariants.{Top, Bottom}
use Rattle.widget_boxes.specs.Titles.{DoesIf, RendersTitle}
use Rattle.widget_boxes.specs.Titles.{PlacedTitle, RendersTitles, title_at, title_width, titles_width, first_columns, last_columns}
use Rattle.widget_boxes.specs.Titles.{without_first, without_last, shown_width, side_of, aligned, from_left, from_right}
use Rattle.widget_boxes.specs.Titles.{from_outside, from_centre}
use Rattle.widget_boxes.specs.Boxes.{Stroke, strokes, stroked, strikes, drawn, box_cell, is_placed, lines_placed, row_titles}
use Rattle.widget_boxes.specs.Boxes.{placed_titles, titles_area, IsNarrowBox, RendersTitled, RendersBlock}
use Rattle.ratatui_core.specs.Text.{EachGrapheme, TakesOneColumn, EachLineGrapheme}

plain-symbol : (c : Cell) → IsPlain c → text_width (symbol_text c.symbol) ≤ 1
unfolding width_of
plain-symbol c is = rw is.unmarked.option at is.narrow

plain-drawn : (m : MergeStrategy) (style : Style) (symbol : List ℕ) (c : Cell) → IsPlain c → text_width symbol ≤ 1
    → IsPlain (drawn m style symbol c)
plain-drawn m style symbol c is le = plain-styled style (with_symbol (joined m c.symbol symbol) c)
    (plain-with_symbol (joined m c.symbol symbol) c is (joined-columns m c.symbol symbol (plain-symbol c is) le))

abbrev AreNarrow : List Stroke → Type 0
AreNarrow [] = Unit {0}
AreNarrow (s ∷ ss) = (text_width s.symbol ≤ 1) × AreNarrow ss

plain-stroked : (b : Block) (ss : List Stroke) (p : Position) (c : Cell) → AreNarrow ss → IsPlain c → IsPlain (stroked b ss p c)
plain-stroked b [] p c all is = is
plain-stroked b (s ∷ ss) p c all is =
    plain-stroked b ss p (if strikes s p then drawn b.merge_borders b.border_style s.symbol c else c) all.1
    (plain-if (strikes s p) (drawn b.merge_borders b.border_style s.symbol c) c
    (plain-drawn b.merge_borders b.border_style s.symbol c is all.0) is)

-- each symbol of the border takes at most one column
abbrev pub HasNarrowSymbols : Block → Type 0
HasNarrowSymbols b = All (λ symbol. text_width symbol ≤ 1) (border_texts b.border_set)

narrow-strokes : (b : Block) (r : Rect) → HasNarrowSymbols b → AreNarrow (strokes b r)
narrow-strokes b r all = (
  all 4 [] (lit< tt),
  (
    all 6 [] (lit< tt),
    (
      all 5 [] (lit< tt),
      (
        all 7 [] (lit< tt),
        (all 3 [] (lit< tt), (all 1 [] (lit< tt), (all 2 [] (lit< tt), (all 0 [] (lit< tt), tt)))),
      ),
    ),
  ),
)

pub plain-cell : (b : Block) (r : Rect) (p : Position) (c : Cell) → HasNarrowSymbols b → IsPlain c → IsPlain (box_cell b r p c)
plain-cell b r p c is plain =
    plain-if (has_position r p) (stroked b (strokes b r) p (styled b.style c)) c
    (plain-stroked b (strokes b r) p (styled b.style c) (narrow-strokes b r is) (plain-styled b.style c plain)) plain

-- a style keeps cells plain
pub plain-laid : (r : Rect) (style : Style) (old laid : BufferData) → IsStyled r style old laid → IsPlainFrom 0 old
    → IsPlainFrom 0 laid
plain-laid r style old laid is plain = λ p in_laid le.
    let in_own : HasPosition old.area p = subst (λ a. HasPosition a p) is.area in_laid in
    ⊎_elim
    (λ (here : HasPosition r p). subst IsPlain (sym (is.inside p in_own here))
    (plain-styled style (cell_in old p) (plain p in_own le)))
    (λ (off : HasPosition r p → ⊥). subst IsPlain (sym (is.outside p in_own off)) (plain p in_own le))
    (has-or-not r p)

-- so does what keeps them plain, done or not
pub plain-done : (t : Bool) (f : BufferData → BufferData → Type 0) (old new : BufferData) → IsPlainFrom 0 old
    → (f old new → IsPlainFrom 0 new) → DoesIf t f old new → IsPlainFrom 0 new
plain-done true f old new plain keeps is = keeps is
plain-done false f old new plain keeps same = rw same plain

-- a text of narrow graphemes
pub plain-text : (at : Position) (x n : ℕ) (style : Style) (text : List ℕ) (old new : BufferData)
    → EachGrapheme TakesOneColumn text → IsPlainFrom 0 old → PaintsPieces at (pieces_at old.area x n style text) old new
    → IsPlainFrom 0 new
plain-text at x n style text old new narrow plain is =
    from-over old new is.area (pieces-plain at (pieces_at old.area x n style text) old.area old new
    (pieces-narrow old.area x n style text narrow) (over-all old plain) is)

-- and a title of a narrow line
pub plain-title : (style : Style) (t : PlacedTitle) (old new : BufferData) → EachLineGrapheme TakesOneColumn t.line
    → IsPlainFrom 0 old
    → RendersTitle style t old new → IsPlainFrom 0 new
plain-title style t old new narrow plain is =
    line-stays t.area is.laid new (plain-laid t.area style old is.laid is.styled plain) t.line narrow is.line

-- titles of narrow lines
abbrev IsNarrowTitle : Title → Type 0
IsNarrowTitle t = EachLineGrapheme TakesOneColumn t.line

abbrev IsNarrowPlaced : PlacedTitle → Type 0
IsNarrowPlaced t = EachLineGrapheme TakesOneColumn t.line

abbrev AreNarrowTitles : List PlacedTitle → Type 0
AreNarrowTitles ts = All IsNarrowPlaced ts

none-or : (t : Bool) (ts : List PlacedTitle) → AreNarrowTitles ts → AreNarrowTitles (if t then [] else ts)
none-or true ts all = All-nil IsNarrowPlaced
none-or false ts all = all

either-titles : (t : Bool) (ts us : List PlacedTitle) → AreNarrowTitles ts → AreNarrowTitles us
    → AreNarrowTitles (if t then ts else us)
either-titles true ts us a b = a
either-titles false ts us a b = b

one-more : (t : PlacedTitle) (ts : List PlacedTitle) → IsNarrowPlaced t → AreNarrowTitles ts → AreNarrowTitles (t ∷ ts)
one-more t ts narrow all = All-cons IsNarrowPlaced t ts narrow all

narrow-left : (r : Rect) (ls : List LineData) → All (EachLineGrapheme TakesOneColumn) ls → AreNarrowTitles (from_left r ls)
narrow-left r [] all = All-nil IsNarrowPlaced
narrow-left r (l ∷ ls) all =
    none-or (r.width == 0) _ (one-more (title_at l (first_columns (title_width l) r))
    (from_left (without_first (title_width l + 1) r) ls) (All-head (EachLineGrapheme TakesOneColumn) l ls all)
    (narrow-left (without_first (title_width l + 1) r) ls (All-tail (EachLineGrapheme TakesOneColumn) l ls all)))

narrow-right : (r : Rect) (ls : List LineData) → All (EachLineGrapheme TakesOneColumn) ls → AreNarrowTitles (from_right r ls)
narrow-right r [] all = All-nil IsNarrowPlaced
narrow-right r (l ∷ ls) all =
    none-or (r.width == 0) _ (one-more (title_at l (last_columns (title_width l) r))
    (from_right (without_last (title_width l + 1) r) ls) (All-head (EachLineGrapheme TakesOneColumn) l ls all)
    (narrow-right (without_last (title_width l + 1) r) ls (All-tail (EachLineGrapheme TakesOneColumn) l ls all)))

narrow-outside : (n : ℕ) (r : Rect) (ls : List LineData) → All (EachLineGrapheme TakesOneColumn) ls
    → AreNarrowTitles (from_outside n r ls)
narrow-outside n r [] all = All-nil IsNarrowPlaced
narrow-outside n r (l ∷ ls) all =
    none-or (r.width == 0) _ (one-more (title_at (aligned (side_of n) l) (first_columns (shown_width n r l) r))
    (from_outside (n - shown_width n r l - 1) (without_first (shown_width n r l + 1) r) ls)
    (All-head (EachLineGrapheme TakesOneColumn) l ls all)
    (narrow-outside (n - shown_width n r l - 1) (without_first (shown_width n r l + 1) r) ls
    (All-tail (EachLineGrapheme TakesOneColumn) l ls all)))

all-reverse : (ts : List Title) → All IsNarrowTitle ts
    → All IsNarrowTitle (reverse ts)
all-reverse [] all = all
all-reverse (t ∷ ts) all =
    subst (All IsNarrowTitle) (sym (reverse-append (t ∷ []) ts))
    (All-append IsNarrowTitle (reverse ts) (t ∷ [])
    (all-reverse ts (All-tail IsNarrowTitle t ts all))
    (All-cons IsNarrowTitle t [] (All-head IsNarrowTitle t ts all)
    (All-nil IsNarrowTitle)))

narrow-placed : (b : Block) (position : TitlePosition) (alignment : HorizontalAlignment) (ts : List Title)
    → All IsNarrowTitle ts → All (EachLineGrapheme TakesOneColumn) (lines_placed b position alignment ts)
narrow-placed b position alignment ts all =
    All-map (EachLineGrapheme TakesOneColumn) (λ (t : Title). t.line) (filter (is_placed b position alignment) ts)
    (All-filter (is_placed b position alignment) IsNarrowTitle ts all)

both-titles : (ts us : List PlacedTitle) → AreNarrowTitles ts → AreNarrowTitles us → AreNarrowTitles (ts ++ us)
both-titles ts us a b = All-append IsNarrowPlaced ts us a b

pub narrow-row : (b : Block) (row : Rect) (position : TitlePosition) → All IsNarrowTitle b.titles.items
    → AreNarrowTitles (row_titles b row position)
narrow-row b row position all =
    let centre = lines_placed b position Center b.titles.items in
    let each = narrow-placed b position Center b.titles.items all in
    both-titles (from_left row (lines_placed b position Left b.titles.items)) _
    (narrow-left row (lines_placed b position Left b.titles.items) (narrow-placed b position Left b.titles.items all))
    (both-titles (from_centre row centre) (from_right row (lines_placed b position Right (reverse b.titles.items)))
    (either-titles (nat_le (titles_width centre) row.width) _ _
    (narrow-left (without_first ((row.width - titles_width centre) / 2) row) centre each)
    (narrow-outside ((titles_width centre - row.width) / 2) row centre each))
    (narrow-right row (lines_placed b position Right (reverse b.titles.items))
    (narrow-placed b position Right (reverse b.titles.items) (all-reverse b.titles.items all))))

plain-titles : (style : Style) (ts : List PlacedTitle) (old new : BufferData) → AreNarrowTitles ts → IsPlainFrom 0 old
    → RendersTitles style ts old new → IsPlainFrom 0 new
plain-titles style [] old new narrow plain same = rw same plain
plain-titles style (t ∷ ts) old new narrow plain made =
    let shown = plain-title style t old made.between (All-head IsNarrowPlaced t ts narrow) plain
    made.first in
    plain-titles style ts made.between new (All-tail IsNarrowPlaced t ts narrow) shown made.second

plain-titled : (b : Block) (r : Rect) (old new : BufferData) → IsNarrowBox b → IsPlainFrom 0 old → RendersTitled b r old new
    → IsPlainFrom 0 new
plain-titled b r old new is plain titled =
    let framed : IsPlainFrom 0 titled.framed = λ p in_framed le.
    let in_own : HasPosition old.area p = subst (λ a. HasPosition a p) titled.frame.area in_framed in
    subst IsPlain (sym (titled.frame.at p in_own)) (plain-cell b r p (cell_in old p) is.symbols (plain p in_own le)) in
    plain-titles b.titles_style (placed_titles b r) titled.framed new
    (both-titles (row_titles b (titles_area b r Top) Top) (row_titles b (titles_area b r Bottom) Bottom)
    (narrow-row b (titles_area b r Top) Top is.titles) (narrow-row b (titles_area b r Bottom) Bottom is.titles))
    framed titled.titles

-- a narrow box on plain cells
pub plain-box : (b : Block) (area : Rect) (old new : BufferData) → IsNarrowBox b → IsPlainFrom 0 old → RendersBlock b area old new
    → IsPlainFrom 0 new
plain-box b area old new is plain renders =
    let part = intersected area old.area in
    let nothing : (part.width ≡ 0) ⊎ (part.height ≡ 0) → IsPlainFrom 0 new = λ none. rw (renders.titled.nothing none) plain in
    ⊎_elim
    (λ (w : 0 < part.width).
    ⊎_elim (λ (h : 0 < part.height). plain-titled b part old new is plain (renders.titled.part w h))
    (λ (le : part.height ≤ 0). nothing (inr (omega arith))) (cases_lt 0 part.height))
    (λ (le : part.width ≤ 0). nothing (inl (omega arith)))
    (cases_lt 0 part.width)

pub ruleset box_steps = (plain-box)
