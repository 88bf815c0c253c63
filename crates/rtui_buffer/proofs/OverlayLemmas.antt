-- An area that lies around another one.
use Rattle.std.proofs.Common.{◌≡◌, ℕ, ◌+◌, ◌-◌, ◌*◌, ◌≤◌, List, [], ◌++◌, take, refl, subst, ◌∙◌, arith, mul_comm, false}
use Rattle.std.proofs.{Math.Seq.take-nil, Math.Nat.mul-le-mul_right}
use Rattle.std.proofs.lemmas.{Bool.false_from_ne_true, Bool.Decides.nat_tests}
use Rattle.rtui_geometry.specs.{declared.position.Position.Position, declared.rect.Rect.Rect, Rect.united, Rect.HasPosition}
use Rattle.rtui_geometry.specs.{Rect.EdgesFit}
use Rattle.rtui_cell.specs.{declared.cell.Cell.Cell, Cell.empty_cell}
use Rattle.rtui_diff.specs.Cells.{cell, cell_at}
use Rattle.rtui_buffer.specs.{BufferData.BufferData, BufferData.cell_index, BufferData.empty_cells, Overlay.IsOverlay}
use Rattle.rtui_buffer.proofs.EmptyLemmas.{cell-empty}
use Rattle.rtui_buffer.specs.Inner.{IsExtended, IsAround, HasInner, place_in}
use Rattle.rtui_grid.proofs.BlockLemmas.{in_block}
use Rattle.rtui_grid.specs.Blocks.{is_in_block}

-- the cell at a position, in the list of an area
abbrev cell_over : Rect → List Cell → Position → Cell
cell_over r cells p = cell cells (cell_index r p)

module _ (r u : Rect) (edges : EdgesFit u) (around : IsAround r u) (block old new : List Cell)
    (is : HasInner r u block old new) where
  of_block : (p : Position) → HasPosition u p → cell_over r new p ≡ cell_over u block p
  of_block p h =
      let a = h.left in let b = h.right in let c = h.top in let d = h.bottom in
      let l = around.left in let m = around.right in let n = around.top in
      let column : p.x - r.x - (u.x - r.x) ≡ p.x - u.x = omega arith in
      let row : p.y - r.y - (u.y - r.y) ≡ p.y - u.y = omega arith in
      let e = is.at (p.x - r.x) (p.y - r.y) (omega arith) in
      let f : cell_at r.width new (p.x - r.x) (p.y - r.y) ≡ cell_at u.width block (p.x - r.x - (u.x - r.x))
      (p.y - r.y - (u.y - r.y)) = grind (arith, nat_tests) in
      f ∙ rw (column, row) refl

  of_rest : (p : Position) → HasPosition r p → ¬ (HasPosition u p) → cell_over r new p ≡ cell_over r old p
  of_rest p h not_in =
      let off : is_in_block (place_in r u) (p.x - r.x) (p.y - r.y) ≡ false =
      false_from_ne_true _ (λ t. not_in (let i = in_block (place_in r u) (p.x - r.x) (p.y - r.y) t in omega arith)) in
      is.at (p.x - r.x) (p.y - r.y) (omega arith) ∙ rw off refl

-- the union of two areas lies around both
pub IsAround-first : (a b : Rect) → EdgesFit a → EdgesFit b → IsAround (united a b) a
IsAround-first a b f g = omega arith

pub IsAround-second : (a b : Rect) → EdgesFit a → EdgesFit b → IsAround (united a b) b
IsAround-second a b f g = omega arith

-- a list that was filled up from none is empty throughout
pub filled-empty : (n m : ℕ) (none filled : List Cell) → filled ≡ take n none ++ empty_cells m → none ≡ [] → (i : ℕ)
    → cell filled i ≡ empty_cell
filled-empty n m none filled e f i = rw (e, f, take-nil n) (cell-empty m i)

pub IsExtended-block : (r : Rect) (old new : BufferData) (empty cells : List Cell) → new.area ≡ r → new.cells ≡ cells
    → EdgesFit old.area → IsAround r old.area
    → ((i : ℕ) → cell empty i ≡ empty_cell) → HasInner r old.area old.cells empty cells → IsExtended r old new
IsExtended-block r old new empty cells area same edges around blank is = record {
  over = area;
  of_old = λ p h. rw (same, area) (of_block r old.area edges around old.cells empty cells is p h);
  of_none = λ p h not_in. rw (same, area) (of_rest r old.area edges around old.cells empty cells is p h not_in
      ∙ blank (cell_index r p));
}

pub IsOverlay-block : (lower upper mid new : BufferData) (cells : List Cell) → EdgesFit lower.area → EdgesFit upper.area
    → IsExtended (united lower.area upper.area) lower mid
    → new.area ≡ mid.area → new.cells ≡ cells → HasInner (united lower.area upper.area) upper.area upper.cells mid.cells cells
    → IsOverlay lower upper new
IsOverlay-block lower upper mid new cells lower_edges upper_edges extended area same is =
    let r = united lower.area upper.area in
    let around = IsAround-second lower.area upper.area lower_edges upper_edges in
    let inside = IsAround-first lower.area upper.area lower_edges upper_edges in
    let on = area ∙ extended.over in
    let over = extended.over in
    record {
      area = on;
      of_upper = λ p h. rw (same, on) (of_block r upper.area upper_edges around upper.cells mid.cells cells is p h);
      of_lower = λ p h not_in. rw (same, on) (of_rest r upper.area upper_edges around upper.cells mid.cells cells is p
          (HasPosition-around r lower.area inside lower_edges p h) not_in
          ∙ rw over at (extended.of_old p h));
      of_none = λ p h not_lower not_upper.
          let there : HasPosition r p = subst (λ t. HasPosition t p) on h in
          rw (same, on) (of_rest r upper.area upper_edges around upper.cells mid.cells cells is p there not_upper
          ∙ rw over at (extended.of_none p there not_lower));
    }
  where
    HasPosition-around : (outer inner : Rect) → IsAround outer inner → EdgesFit inner → (p : Position) → HasPosition inner p
        → HasPosition outer p
    HasPosition-around outer inner a f p h = omega arith

-- and its rows reach to the inner one's last
pub inner-rows : (r u : Rect) → IsAround r u → (u.y - r.y + u.height) * r.width ≤ r.width * r.height
inner-rows r u a =
    let e : (u.y - r.y + u.height) * r.width ≤ r.height * r.width = mul-le-mul_right r.width (omega arith) in
    omega (arith, mul_comm r.height r.width)
