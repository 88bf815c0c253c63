-- Empty buffers with a style, and the looks of shown cells.
use Rattle.std.proofs.Common.{◌≡◌, ℕ, ◌+◌, ◌-◌, ◌*◌, ◌<◌, ◌≤◌, inl, inr, List, length, take, false, refl, sym, ap, ap₂}
use Rattle.std.proofs.Common.{subst, ◌∙◌, arith}
use Rattle.rtui_geometry.specs.{declared.position.Position.Position, declared.rect.Rect.Rect}
use Rattle.rtui_geometry.{specs.Rect.HasPosition, specs.Rect.EdgesFit, proofs.PositionTests.has-or-not}
use Rattle.rtui_style.specs.declared.Style.{Style}
use Rattle.rtui_cell.specs.{declared.cell.Cell.Cell, Look.look_of, Grid.Grid}
use Rattle.rtui_cell.specs.Cell.{empty_cell, styled, width_of, is_skipped, IsUnmarked}
use Rattle.rtui_cell.proofs.CellLemmas.{width-empty}
use Rattle.rtui_diff.specs.{Cells.cell_at, Settled.IsSettled}
use Rattle.rtui_buffer.specs.BufferData.{BufferData, IsEmptied, HasRow, area_size, cell_in, cell_index, position_of}
use Rattle.rtui_buffer.specs.Shown.{IsSettledBuffer, ShowsBuffer}
use Rattle.rtui_buffer.specs.Painting.{Piece, columns, shown, piece_at}
use Rattle.rtui_buffer.specs.PaintedText.{IsBeside, IsPaintable, IsStyled, PaintsPieces, PaintsByColumns, right_by}
use Rattle.rtui_buffer.proofs.{ColumnLemmas.PaintsByColumns-paints, EmptyLemmas.cell-empty}

-- a cell that is empty but for a style has one column and no mark
pub record IsPlainBlank (c : Cell) : Type 0 where
  pub width : width_of c ≡ 1
  pub unmarked : IsUnmarked c

blank-empty : IsPlainBlank empty_cell
blank-empty = record { width = width-empty; unmarked = record { option = refl; flag = refl } }

blank-styled : (s : Style) → IsPlainBlank (styled s empty_cell)
unfolding width_of
blank-styled s = record { width = width-empty; unmarked = record { option = refl; flag = refl } }

-- the place of a cell by how far it lies from its area's corner
pub index-at : (x y w a b : ℕ) → (y + b - y) * w + (x + a - x) ≡ b * w + a
index-at x y w a b =
    let row : y + b - y ≡ b = omega arith in
    let column : x + a - x ≡ a = omega arith in
    rw (row, column) refl

module _ (r area : Rect) (s : Style) (old new : BufferData) (edges : EdgesFit r) (emptied : IsEmptied r old)
    (is : IsStyled area s old new) where
  own-edges : EdgesFit old.area
  own-edges = subst EdgesFit (sym emptied.area) edges

  former : (p : Position) → cell_in old p ≡ empty_cell
  former p = rw emptied.cells (cell-empty (area_size r) (cell_index old.area p))

  here : (p : Position) → HasPosition old.area p → IsPlainBlank (cell_in new p)
  here p has = elim (has-or-not area p) [
    | inl under ↦ rw (is.inside p has under, former p) (blank-styled s)
    | inr beside ↦ rw (is.outside p has beside, former p) blank-empty
  ]

  plain-at : (a b : ℕ) → a < old.area.width → b < old.area.height → IsPlainBlank (cell_at old.area.width new.cells a b)
  plain-at a b a_in b_in =
      let e = own-edges in
      let p : Position = record { x = old.area.x + a; y = old.area.y + b } in
      let has : HasPosition old.area p = omega arith in
      rw (is.area, index-at) at (here p has)

  pub IsSettledBuffer-styled : IsSettledBuffer new
  IsSettledBuffer-styled = subst (λ q. IsSettled q.width q.height new.cells) (sym is.area) (record {
    skipped = λ a b a_in b_in skip. let one = (plain-at a b a_in b_in).width in omega arith;
    within = λ a b a_in b_in plain. let one = (plain-at a b a_in b_in).width in omega arith;
    behind = λ a b k a_in b_in plain more less. let one = (plain-at a b a_in b_in).width in absurd (omega arith);
  })

  pub IsPaintable-styled : (p : Position) (n : ℕ) → HasRow old.area p.y → old.area.x ≤ p.x → p.x + n ≤ old.area.x + old.area.width
      → IsPaintable p n new
  IsPaintable-styled p n row le fits =
      let e = own-edges in
      let left : new.area.x ≡ old.area.x = ap (λ q. q.x) is.area in
      record {
        unmarked = λ a from to. (here (position_of (a, p.y)) (omega arith)).unmarked;
        uncovered = λ a from to plain. omega (arith, (here (position_of (a, p.y)) (omega arith)).width);
      }

-- the look in a column of a shown buffer
pub shown-look : (s : BufferData) (g : Grid) (p : Position) → ShowsBuffer s g → HasPosition s.area p
    → is_skipped (cell_in s p) ≡ false → g p.x p.y ≡ look_of (cell_in s p)
shown-look s g p shows has plain =
    let l = has.left in let r = has.right in let t = has.top in let b = has.bottom in
    let x : s.area.x + (p.x - s.area.x) ≡ p.x = omega arith in
    let y : s.area.y + (p.y - s.area.y) ≡ p.y = omega arith in
    ap₂ g (sym x) (sym y) ∙ (shows.at (p.x - s.area.x) (p.y - s.area.y) (omega arith) (omega arith)).look plain

-- pieces painted in a row, on a screen that shows them
module _ (p : Position) (ps : List Piece) (old new : BufferData) (g : Grid) (row : HasRow old.area p.y) (left : old.area.x ≤ p.x)
    (fits : columns ps ≤ old.area.x + old.area.width - p.x)
    (painted : PaintsPieces p ps old new) (shows : ShowsBuffer new g) where
  by : PaintsByColumns p ps old new
  by = PaintsByColumns-paints p ps old new row left fits painted

  look-at : (q : Position) (c : Cell) → HasPosition old.area q → cell_in new q ≡ c → is_skipped c ≡ false → g q.x q.y ≡ look_of c
  look-at q c has e plain = shown-look new g q shows (rw painted.area has) (rw e plain) ∙ ap look_of e

  -- each piece has its look over the former cell, in the column where it begins
  pub look-painted : (k : ℕ) → k < length ps → HasPosition old.area (right_by (columns (take k ps)) p)
      → is_skipped (cell_in old (right_by (columns (take k ps)) p)) ≡ false
      → g (p.x + columns (take k ps)) p.y ≡ look_of (shown (piece_at ps k) (cell_in old (right_by (columns (take k ps)) p)))
  unfolding is_skipped
  look-painted k k_in has plain = look-at (right_by (columns (take k ps)) p) _ has (by.starts k k_in) plain

  -- and each cell beside them its own
  pub look-beside : (q : Position) → HasPosition old.area q → IsBeside p (columns ps) q → is_skipped (cell_in old q) ≡ false
      → g q.x q.y ≡ look_of (cell_in old q)
  look-beside q has beside plain = look-at q _ has (by.outside q has beside) plain
