-- A box of short symbols takes no memory.
use Rattle.std.proofs.Common.{◌≡◌, ℕ, ◌<◌, Bool, true, false, if◌then◌else◌, List, [], ◌∷◌, All, length, slice_index_or, lit<}
use Rattle.std.proofs.Common.{sym, ap, subst, arith}
use Rattle.std.proofs.lemmas.List.Elements.{All-nil}
use Rattle.ratatui_core.specs.declared.layout.HorizontalAlignment.TheVariants.{Center}
use Rattle.ratatui_core.specs.Layout.{Rect, Position, has_position, intersected}
use Rattle.ratatui_core.specs.Buffer.{BufferData, Cell, cell_in, symbol_text, styled, IsShort}
use Rattle.ratatui_core.proofs.BufferLemmas.{joined-short}
use Rattle.widget_boxes.specs.{declared.block.Block.Block, declared.title.Title.Title, Titles.titles_width}
use Rattle.widget_boxes.specs.Boxes.{Stroke, strokes, strikes, drawn, IsShortUnder, IsShortBlock, HasShortSymbols}
use Rattle.widget_boxes.specs.Boxes.{AreShortCells, lines_placed, HasShortTitles, AreShortTitles, AreShortAnywhere}
use Rattle.widget_boxes.specs.Lines.{IsShortTitle}

abbrev AreShortStrokes : List Stroke → Type 0
AreShortStrokes [] = Unit {0}
AreShortStrokes (s ∷ ss) = IsShort s.symbol × AreShortStrokes ss

if-short : (t : Bool) (a c : Cell) → IsShort (symbol_text a.symbol) → IsShort (symbol_text c.symbol)
    → IsShort (symbol_text (if t then a else c).symbol)
if-short true a c pa pc = pa
if-short false a c pa pc = pc

short-under : (b : Block) (ss : List Stroke) (p : Position) (c : Cell) → AreShortStrokes ss → IsShort (symbol_text c.symbol)
    → IsShortUnder b ss p c
short-under b [] p c all short = tt
short-under b (s ∷ ss) p c all short =
    let join = joined-short b.merge_borders c.symbol s.symbol short all.0 in (
      (λ _. join),
      short-under b ss p (if strikes s p then drawn b.merge_borders b.border_style s.symbol c else c) all.1
          (if-short (strikes s p) (drawn b.merge_borders b.border_style s.symbol c) c join short),
    )

short-strokes : (b : Block) (r : Rect) → HasShortSymbols b → AreShortStrokes (strokes b r)
short-strokes b r is = (
  is 4 [] (lit< tt),
  (
    is 6 [] (lit< tt),
    (
      is 5 [] (lit< tt),
      (is 7 [] (lit< tt), (is 3 [] (lit< tt), (is 1 [] (lit< tt), (is 2 [] (lit< tt), (is 0 [] (lit< tt), tt))))),
    ),
  ),
)

-- titles that are short in a row of any width
short-titles : (b : Block) (r : Rect) → AreShortAnywhere b → AreShortTitles b r
short-titles b r is = record {
  titles = is.titles;
  uncut = λ position. let none = is.uncentred position in omega arith;
}

pub no-title-short : (b : Block) → b.titles.items ≡ [] → AreShortAnywhere b
no-title-short b none = record {
  titles = subst (All (λ (t : Title). IsShortTitle t.line)) (sym none) (All-nil (λ (t : Title). IsShortTitle t.line));
  uncentred = λ position. ap (λ ts. titles_width (lines_placed b position Center ts)) none;
}

-- a title of a box with short ones
pub short-at : (b : Block) (titles : List Title) (i : ℕ) (title : Title) → titles ≡ b.titles.items → i < length titles
    → title ≡ slice_index_or titles i title → HasShortTitles b → IsShortTitle title.line
short-at b titles i title same lt at short =
    let all : All (λ (t : Title). IsShortTitle t.line) titles =
    subst (All (λ (t : Title). IsShortTitle t.line)) (sym same) short in
    subst (λ (t : Title). IsShortTitle t.line) (sym at) (all i title lt)

-- a box of short symbols and titles on cells with short symbols
pub short-box : (b : Block) (area : Rect) (s : BufferData) → AreShortAnywhere b → HasShortSymbols b → AreShortCells s
    → IsShortBlock b area s
short-box b area s titles symbols_ cells = record {
  titles = short-titles b (intersected area s.area) titles;
  short = λ p has.
      let part = intersected area s.area in
      short-under b (strokes b part) p (if has_position part p then styled b.style (cell_in s p) else cell_in s p)
      (short-strokes b part symbols_)
      (if-short (has_position part p) (styled b.style (cell_in s p)) (cell_in s p) (cells p has) (cells p has));
}
