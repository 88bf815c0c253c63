-- Painting within a row, seen by columns.
use Rattle.std.proofs.Common.{◌≡◌, ℕ, ◌+◌, ◌-◌, ◌*◌, ◌≤◌, inl, inr, List, take, ap, arith, true}
use Rattle.std.proofs.lemmas.Bool.{cases_lt}
use Rattle.rtui_grid.proofs.PlaceLemmas.{by_rows}
use Rattle.unicode_segmentation.specs.Grapheme.{graphemes}
use Rattle.rtui_geometry.specs.{declared.position.Position.Position, declared.rect.Rect.Rect, Rect.HasPosition}
use Rattle.rtui_style.specs.declared.Style.{Style}
use Rattle.rtui_cell.specs.declared.cell.Cell.{Cell}
use Rattle.rtui_text.specs.Text.{LineData}
use Rattle.rtui_diff.specs.Cells.{cell}
use Rattle.rtui_buffer.specs.BufferData.{HasRow, BufferData, cell_index, cell_in}
use Rattle.rtui_buffer.specs.{Painting.Piece, Painting.columns, Painting.IsSameOutside, Line.line_pieces_at}
use Rattle.rtui_buffer.specs.PaintedText.{room_at, pieces_at, PaintsPieces, right_by, IsBeside, IsSameBeside, PaintsByColumns}
use Rattle.rtui_buffer.proofs.{PaintedLemmas.columns-kept, LineLemmas.columns-line}

pub text-ends : (r : Rect) (x max : ℕ) (s : Style) (text : List ℕ) → columns (pieces_at r x max s text) ≤ r.x + r.width - x
text-ends r x max s text = let k = columns-kept s (room_at r x max) (graphemes true text) in omega arith

pub line-ends : (r : Rect) (x max : ℕ) (l : LineData) → columns (line_pieces_at r x max l) ≤ r.x + r.width - x
line-ends r x max l = let k = columns-line (room_at r x max) l.style l.spans in omega arith

pub text-keeps : (r : Rect) (x max : ℕ) (s : Style) (text : List ℕ) → columns (pieces_at r x max s text) ≤ max
text-keeps r x max s text = let k = columns-kept s (room_at r x max) (graphemes true text) in omega arith

pub line-keeps : (r : Rect) (x max : ℕ) (l : LineData) → columns (line_pieces_at r x max l) ≤ max
line-keeps r x max l = let k = columns-line (room_at r x max) l.style l.spans in omega arith

-- the place of a position some columns further right
place-at : (r : Rect) (p : Position) (n : ℕ) → r.x ≤ p.x → cell_index r (right_by n p) ≡ cell_index r p + n
place-at r p n le = omega arith

place-right : (r : Rect) (p : Position) (n j : ℕ) → r.x ≤ p.x → cell_index r (right_by (n + j) p) ≡ cell_index r p + n + j
place-right r p n j le = omega arith

-- a position beside these columns whose place isn't before the first one stands after the last one
place-behind : (r : Rect) (p q : Position) (n : ℕ) → HasRow r p.y → r.x ≤ p.x → n ≤ r.x + r.width - p.x → HasPosition r q
    → IsBeside p n q
    → cell_index r p ≤ cell_index r q → cell_index r p + n ≤ cell_index r q
place-behind r p q n row le fits h beside ge =
    let top = row.top in let above = h.top in let left = h.left in let right = h.right in
    by_rows _ r.width (q.y - r.y) (p.y - r.y) (λ _ e. absurd (omega arith)) (λ _ e. omega arith) (λ e.
    let rows : (q.y - r.y) * r.width ≡ (p.y - r.y) * r.width = ap (λ y. y * r.width) e in
    elim (beside (omega arith)) [ inl before ↦ absurd (omega arith) | inr behind ↦ omega arith ])

-- such a position is beside the painted part
beside-same : (r : Rect) (p q : Position) (n : ℕ) (old new : List Cell) → HasRow r p.y → r.x ≤ p.x → n ≤ r.x + r.width - p.x
    → HasPosition r q → IsBeside p n q
    → IsSameOutside (cell_index r p) (cell_index r p + n) old new → cell new (cell_index r q) ≡ cell old (cell_index r q)
beside-same r p q n old new row le fits h beside same = elim (cases_lt (cell_index r q) (cell_index r p)) [
  | inl lt ↦ same.before (cell_index r q) lt
  | inr ge ↦ same.behind (cell_index r q) (place-behind r p q n row le fits h beside ge)
]

-- a refused painting changes nothing beside its columns
pub same-beside : (p q : Position) (ps : List Piece) (old new : BufferData) → HasRow old.area p.y → old.area.x ≤ p.x
    → columns ps ≤ old.area.x + old.area.width - p.x
    → IsSameBeside p ps old new → HasPosition old.area q → IsBeside p (columns ps) q → cell_in new q ≡ cell_in old q
same-beside p q ps old new row le fits h q_in beside =
    rw h.area (beside-same old.area p q (columns ps) old.cells new.cells row le fits q_in beside h.cells)

pub PaintsByColumns-paints : (p : Position) (ps : List Piece) (old new : BufferData) → HasRow old.area p.y → old.area.x ≤ p.x
    → columns ps ≤ old.area.x + old.area.width - p.x → PaintsPieces p ps old new → PaintsByColumns p ps old new
PaintsByColumns-paints p ps old new row le fits h = record {
  starts = λ k k_in. rw (h.area, place-at old.area p (columns (take k ps)) le) (h.cells.starts k k_in);
  behind = λ k j k_in some j_in. rw (h.area, place-right old.area p (columns (take k ps)) j le)
      (h.cells.behind k j k_in some j_in);
  outside = λ q q_in beside. rw h.area (beside-same old.area p q (columns ps) old.cells new.cells row le fits q_in beside
      h.cells.outside);
}
