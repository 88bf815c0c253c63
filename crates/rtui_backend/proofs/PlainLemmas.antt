-- Lists of plain cells.
use Rattle.std.proofs.Common.{ℕ, zero, suc, List, [], ◌∷◌, ◌++◌, set, refl, sym, subst}
use Rattle.rtui_cell.specs.{declared.cell.Cell.Cell, Cell.empty_cell, Cell.IsUnmarked}
use Rattle.rtui_text.specs.Text.{LineData}
use Rattle.rtui_buffer.specs.{BufferData.empty_cells, Line.line_row, Line.line_rows}
use Rattle.rtui_buffer.proofs.{EmptyLemmas.cell-empty, PaintsLemmas.HasPieces-unmarked, RowLemmas.HasPieces-row}
use Rattle.rtui_buffer.proofs.{PaintLemmas.unmarked-set}
use Rattle.rtui_backend.specs.CellGrid.{AreUnmarked}

pub unmarked-empty : IsUnmarked empty_cell
unmarked-empty = record { option = refl; flag = refl }

pub unmarked_set : (cells : List Cell) (i : ℕ) (c : Cell) → AreUnmarked cells → IsUnmarked c → AreUnmarked (set cells i c)
unmarked_set cells i c all one j = unmarked-set cells i c (λ _. one) j (all j)

pub AreUnmarked-empties : (n : ℕ) → AreUnmarked (empty_cells n)
AreUnmarked-empties n i = subst IsUnmarked (sym (cell-empty n i)) unmarked-empty

pub AreUnmarked-one : (c : Cell) → IsUnmarked c → AreUnmarked (c ∷ [])
AreUnmarked-one c one zero = one
AreUnmarked-one c one (suc i) = unmarked-empty

pub AreUnmarked-append : (xs ys : List Cell) → AreUnmarked xs → AreUnmarked ys → AreUnmarked (xs ++ ys)
AreUnmarked-append [] ys all rest i = rest i
AreUnmarked-append (x ∷ xs) ys all rest zero = all 0
AreUnmarked-append (x ∷ xs) ys all rest (suc i) = AreUnmarked-append xs ys (λ k. all (suc k)) rest i

AreUnmarked-row : (w : ℕ) (line : LineData) → AreUnmarked (line_row w line)
AreUnmarked-row w line i = (HasPieces-unmarked 0 _ (empty_cells w) _ (HasPieces-row w line)).at i (AreUnmarked-empties w i)

pub AreUnmarked-rows : (w : ℕ) (lines : List LineData) → AreUnmarked (line_rows w lines)
AreUnmarked-rows w [] = λ i. unmarked-empty
AreUnmarked-rows w (line ∷ lines) = AreUnmarked-append (line_row w line) (line_rows w lines) (AreUnmarked-row w line)
    (AreUnmarked-rows w lines)

pub ruleset plain_rows = (AreUnmarked-rows)
