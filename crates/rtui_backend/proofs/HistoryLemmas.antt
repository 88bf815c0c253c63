-- Rows of cells that have the symbols of lines.
use Rattle.std.proofs.Common.{◌≡◌, ℕ, ◌+◌, ◌<◌, List, [], ◌∷◌, ◌++◌, length, get_or, take, map, refl, sym, ap, ap₂, ◌∙◌, arith}
use mathlib.Core.List.{map-map}
use Rattle.std.proofs.lemmas.List.{length-map, get_or-map, map_more, ext_get_or}
use Rattle.rtui_cell.specs.{declared.cell.Cell.Cell, Cell.empty_cell, Look.look_of, Symbol.blank}
use Rattle.rtui_text.specs.Text.{line_of, unstyled}
use Rattle.rtui_buffer.specs.Line.{line_row}
use Rattle.rtui_backend.specs.{ScreenLines.symbols_of_line, Inner.symbol_in, Inner.HasLine}
use Rattle.rtui_backend.proofs.LineLemmas.{look_at-cell}
use Rattle.rtui_buffer.proofs.RowLemmas.{length-row}

abbrev pub symbols : List Cell → List (List ℕ)
symbols cells = map (λ cell. (look_of cell).symbol) cells

symbol-at : (cells : List Cell) (a : ℕ) → a < length cells → get_or (symbols cells) a blank ≡ symbol_in cells a
symbol-at cells a a_in = get_or-map (λ (cell : Cell). (look_of cell).symbol) cells a empty_cell blank a_in
    ∙ sym (ap (λ l. l.symbol) (look_at-cell cells a))

count : (cells : List Cell) → length (symbols cells) ≡ length cells
count cells = length-map cells (λ (cell : Cell). (look_of cell).symbol)

module _ (w : ℕ) (ts : List (List ℕ)) (cells : List Cell) where
  abbrev shown : List Cell
  shown = line_row w (line_of (map unstyled ts))

  pub row-shows : length cells ≡ w → HasLine (line_of (map unstyled ts)) w (symbol_in cells)
      → symbols cells ≡ symbols_of_line w (line_of (map unstyled ts))
  row-shows wide told =
      let n = length-row w (line_of (map unstyled ts)) in
      ext_get_or blank (symbols cells) (symbols shown) (count cells ∙ wide ∙ sym (count shown ∙ n)) (λ a a_in.
      let inside : a < w = omega (arith, count cells) in
      symbol-at cells a (omega arith) ∙ told a inside ∙ sym (symbol-at shown a (omega arith)))

  pub row-shown : symbols cells ≡ symbols_of_line w (line_of (map unstyled ts))
      → (length cells ≡ w) × HasLine (line_of (map unstyled ts)) w (symbol_in cells)
  row-shown same =
      let n = length-row w (line_of (map unstyled ts)) in
      let m : length cells ≡ w = sym (count cells) ∙ ap length same ∙ count shown ∙ n in
      (m, λ a a_in. sym (symbol-at cells a (omega arith)) ∙ ap (λ xs. get_or xs a blank) same ∙ symbol-at shown a (omega arith))

-- two lists mapped to the same, item by item
module _ {X Y Z : Type 0} (f : X → Z) (g : Y → Z) (xs : List X) (ys : List Y) (d : X) (e : Y) where
  pub same-more : (i : ℕ) → i < length xs → i < length ys → map f (take i xs) ≡ map g (take i ys)
      → f (get_or xs i d) ≡ g (get_or ys i e) → map f (take (i + 1) xs) ≡ map g (take (i + 1) ys)
  same-more i in_xs in_ys before here = map_more f xs i d in_xs ∙ ap₂ (λ zs z. zs ++ z ∷ []) before here
      ∙ sym (map_more g ys i e in_ys)

  pub same-at : (i : ℕ) → i < length xs → i < length ys → map f xs ≡ map g ys → f (get_or xs i d) ≡ g (get_or ys i e)
  same-at i in_xs in_ys same = sym (get_or-map f xs i d (f d) in_xs) ∙ ap (λ zs. get_or zs i (f d)) same
      ∙ get_or-map g ys i e (f d) in_ys

-- the symbols of looks of cells
pub history-symbols : {X : Type 0} (items : X → List Cell) (rows : List X)
    → map (map (λ look. look.symbol)) (map (λ row. map look_of (items row)) rows) ≡ map symbols (map items rows)
history-symbols items [] = refl
history-symbols items (row ∷ rows) = ap₂ (λ x xs. x ∷ xs) (map-map (λ look. look.symbol) look_of (items row))
    (history-symbols items rows)
