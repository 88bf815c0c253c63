-- A row of a screen, and a row of a buffer of lines.
use Rattle.std.proofs.Common.{◌≡◌, ℕ, zero, suc, ◌+◌, ◌-◌, ◌*◌, ◌<◌, List, [], ◌∷◌, ◌++◌, length, take, ap, sym, ◌∙◌, arith}
use Rattle.std.proofs.Math.Seq.{take-append_seam, drop-append-add}
use Rattle.std.proofs.lemmas.Bool.Decides.{nat_tests}
use Rattle.rtui_cell.specs.declared.cell.Cell.{Cell}
use Rattle.rtui_text.specs.Text.{LineData}
use Rattle.rtui_buffer.specs.{BufferData.row_cells, Line.line_row, Line.line_rows, Line.line_at}
use Rattle.rtui_buffer.specs.{BufferData.BufferData, BufferData.buffer_row, Line.IsOfLines, Line.widest}
use Rattle.rtui_buffer.proofs.RowLemmas.{length-row}
use Rattle.rtui_backend.specs.{CellGrid.grid_of, CellGrid.look_at, Screen.screen_area, TestBackend.screen_of}
use Rattle.rtui_backend.specs.{TestBackend.buffer_of, ScreenLines.symbols_in, declared.test.TestBackend.TestBackend}
use Rattle.rtui_backend.proofs.SizeLemmas.{row-look}
use Rattle.ratatui_test.specs.Apart.{symbol_seen}

-- a column of a row of a grid
row-grid : (w : ℕ) (cells : List Cell) (y a : ℕ) → a < w → look_at (row_cells w cells y) a ≡ grid_of w cells a y
row-grid w cells y a a_in = row-look w (y * w) a cells a_in ∙ grind (arith, nat_tests)

pub shown-symbol : (b : TestBackend) (y a : ℕ) → (buffer_of b).area ≡ screen_area (screen_of b) → a < (screen_of b).width
    → symbol_seen (buffer_row (buffer_of b) y) a ≡ symbols_in (screen_of b) y a
shown-symbol b y a area a_in =
    let none : (buffer_of b).area.y ≡ 0 = ap (λ r. r.y) area in
    let top : y - (buffer_of b).area.y ≡ y = omega (arith, none) in
    rw top (ap (λ l. l.symbol) (row-grid (buffer_of b).area.width (buffer_of b).cells y a a_in))

-- row k of rows that show lines is the one that shows line k
pub row-at : (w : ℕ) (ls : List LineData) (k : ℕ) → k < length ls → row_cells w (line_rows w ls) k ≡ line_row w (line_at ls k)
row-at w [] k lt = absurd (omega arith)
row-at w (l ∷ ls) zero lt =
    let none : 0 * w ≡ 0 = omega arith in
    rw none (ap (λ n. take n (line_row w l ++ line_rows w ls)) (sym (length-row w l))
    ∙ take-append_seam (line_row w l) (line_rows w ls))
row-at w (l ∷ ls) (suc k) lt =
    let len = length-row w l in
    let e : suc k * w ≡ length (line_row w l) + k * w = omega arith in
    rw (e, drop-append-add (line_row w l) (line_rows w ls) (k * w)) (row-at w ls k (omega arith))

pub wanted-row : (ls : List LineData) (t : BufferData) (y : ℕ) → IsOfLines ls t → y < length ls
    → buffer_row t y ≡ line_row (widest ls) (line_at ls y)
wanted-row ls t y of y_in =
    let top : y - 0 ≡ y = omega arith in
    rw (of.area, of.cells, top) (row-at (widest ls) ls y y_in)
