-- What private functions promise one another: when a row of symbols has the pieces of a line.
use Rattle.std.specs.Prelude.{◌≡◌, ⊤, ℕ, ◌+◌, ◌<◌, ◌≤◌, List, [], ◌∷◌, map, Option, MatchOption}
use Rattle.rtui_cell.specs.{declared.cell.Cell.Cell, Symbol.blank, Look.look_of, Width.text_width}
use Rattle.rtui_text.specs.Text.{LineData}
use Rattle.rtui_buffer.specs.{Painting.Piece, Painting.piece_width, Painting.columns, Line.line_row}
use Rattle.rtui_backend.specs.{CellGrid.look_at, ScreenLines.symbols_of_line}

-- the symbol at a place of a list of cells, blank past the end
abbrev pub symbol_in : List Cell → ℕ → List ℕ
symbol_in cells a = (look_at cells a).symbol

-- blanks in the columns from one up to another
abbrev pub AreBlank : (ℕ → List ℕ) → ℕ → ℕ → Type 0
AreBlank row from to = (a : ℕ) → from ≤ a → a < to → row a ≡ blank

-- a symbol in a column, and blanks in the others that it takes
pub record HasSymbol (row : ℕ → List ℕ) (a : ℕ) (symbol : List ℕ) : Type 0 where
  pub first : row a ≡ symbol
  pub others : AreBlank row (a + 1) (a + text_width symbol)

-- pieces stand from a column on, one after the other
unfoldable pub Stand : (ℕ → List ℕ) → ℕ → List Piece → Type 0
Stand row a [] = ⊤
Stand row a (p ∷ ps) = HasSymbol row a p.symbol × Stand row (a + piece_width p) ps

-- the column after pieces that stand from a column on, if they do
abbrev pub EndsAfter : (ℕ → List ℕ) → ℕ → List Piece → Option ℕ → Type 0
EndsAfter row a ps end = MatchOption end (Stand row a ps → ⊥) (λ e. (e ≡ a + columns ps) × Stand row a ps)

-- a row has the symbols of a row of w cells that shows this line
abbrev pub HasLine : LineData → ℕ → (ℕ → List ℕ) → Type 0
HasLine line w row = (a : ℕ) → a < w → row a ≡ symbol_in (line_row w line) a

-- rows of cells that have, in w columns each, the symbols of these lines, in order
abbrev pub RowsHaveLines : ℕ → List LineData → List (List Cell) → Type 0
RowsHaveLines w lines rows = map (map (λ cell. (look_of cell).symbol)) rows ≡ map (symbols_of_line w) lines
