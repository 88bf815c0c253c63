-- A text on an empty buffer leaves a settled one.
use Rattle.std.proofs.Common.{◌≡◌, ℕ, ◌+◌, ◌<◌, ◌≤◌, List, ap, arith}
use Rattle.rtui_geometry.specs.declared.rect.Rect.{Rect}
use Rattle.rtui_style.specs.Style.{new_style}
use Rattle.rtui_buffer.specs.{BufferData.BufferData, BufferData.IsEmptied, Shown.IsSettledBuffer, PaintedText.pieces_at}
use Rattle.rtui_buffer.proofs.{EmptyLemmas.IsSettledBuffer-empty, EmptyLemmas.IsPaintable-empty}
use Rattle.rtui_buffer.proofs.{ColumnLemmas.text-ends, PaintsLemmas.IsSettledBuffer-painted}
use Rattle.rtui_widgets.specs.Rendering.{HasFirstRow, RendersStr}

pub text-settled : (r area : Rect) (text : List ℕ) (old new : BufferData) → IsEmptied r old → old.area.x ≤ area.x
    → area.x ≤ old.area.x + old.area.width → RendersStr text area old new → IsSettledBuffer new
text-settled r area text old new empty left right paints =
    IsSettledBuffer-painted _ (pieces_at old.area area.x area.width new_style text) old new left
    (text-ends old.area area.x area.width new_style text) (IsSettledBuffer-empty _ _ empty)
    (IsPaintable-empty _ _ empty _ _) paints

pub has-first-row : (r : Rect) (s : BufferData) → 0 < r.height → IsEmptied r s → HasFirstRow r s
has-first-row r s some empty =
    let x : s.area.x ≡ r.x = ap (λ (q : Rect). q.x) empty.area in
    let y : s.area.y ≡ r.y = ap (λ (q : Rect). q.y) empty.area in
    let height : s.area.height ≡ r.height = ap (λ (q : Rect). q.height) empty.area in
    record { row = record { top = omega arith; bottom = omega arith }; column = omega arith }
