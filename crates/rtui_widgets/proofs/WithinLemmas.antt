-- What the author of a widget cites: the part of an area that a buffer has, and what stays within an area.
use Rattle.std.proofs.Common.{◌≡◌, ◌+◌, ◌-◌, ◌<◌, ◌≤◌, List, min, max, refl, ap, ◌∙◌, arith}
use Rattle.rtui_geometry.specs.{declared.position.Position.Position, declared.rect.Rect.Rect}
use Rattle.rtui_geometry.specs.Rect.{HasPosition, EdgesFit, right_edge, bottom_edge, intersected}
use Rattle.rtui_style.specs.declared.Style.{Style}
use Rattle.rtui_buffer.specs.{BufferData.BufferData, BufferData.HasRow, Painting.Piece, Painting.columns}
use Rattle.rtui_buffer.specs.{PaintedText.IsStyled, PaintedText.IsSameBeside, Clipped.IsClipped, Inner.IsAround}
use Rattle.rtui_buffer.proofs.ColumnLemmas.{same-beside}
use Rattle.rtui_widgets.specs.Rendering.{ChangesWithin}
use Rattle.rtui_grid.proofs.PlaceLemmas.{apart}

-- a buffer has the whole of its own area
pub intersected-whole : (r : Rect) → EdgesFit r → intersected r r ≡ r
intersected-whole r edges =
    let right = edges.right in let bottom = edges.bottom in
    let x : max r.x r.x ≡ r.x = omega arith in
    let y : max r.y r.y ≡ r.y = omega arith in
    let w : min (right_edge r) (right_edge r) - r.x ≡ r.width = omega arith in
    let h : min (bottom_edge r) (bottom_edge r) - r.y ≡ r.height = omega arith in
    rw (x, y, w, h) refl

-- the part of an area lies in the buffer's own
pub part-around : (area own part : Rect) → IsClipped area own part → IsAround own part
part-around area own part is =
    let x : part.x ≡ max area.x own.x = ap (λ q. q.x) is.value in
    let y : part.y ≡ max area.y own.y = ap (λ q. q.y) is.value in
    let width : part.width ≡ min (right_edge area) (right_edge own) - max area.x own.x = ap (λ q. q.width) is.value in
    let height : part.height ≡ min (bottom_edge area) (bottom_edge own) - max area.y own.y = ap (λ q. q.height) is.value in
    let columns_ = is.columns in let rows = is.rows in
    record { left = omega arith; right = omega arith; top = omega arith; bottom = omega arith }

pub part-row : (area own part : Rect) → IsClipped area own part → HasRow own part.y
part-row area own part is = let around = part-around area own part is in let rows = is.rows in
    record { top = omega arith; bottom = omega arith }

-- one change after another
pub within-then : (area : Rect) (old between new : BufferData) → ChangesWithin area old between → ChangesWithin area between new
    → ChangesWithin area old new
within-then area old between new first second = record {
  same_area = second.same_area ∙ first.same_area;
  same_room = second.same_room ∙ first.same_room;
  outside = λ p in_own off. second.outside p (rw first.same_area in_own) off ∙ first.outside p in_own off;
}

-- a style over a smaller area
pub within-styled : (area r : Rect) (style : Style) (old new : BufferData)
    → ((p : Position) → HasPosition old.area p → HasPosition r p → HasPosition area p) → IsStyled r style old new
    → ChangesWithin area old new
within-styled area r style old new inside is = record {
  same_area = is.area;
  same_room = is.room;
  outside = λ p in_own off. is.outside p in_own (λ h. off (inside p in_own h));
}

-- a refused painting in a row, in columns of an area
pub within-beside : (area : Rect) (p : Position) (ps : List Piece) (old new : BufferData) → HasRow old.area p.y → old.area.x ≤ p.x
    → columns ps ≤ old.area.x + old.area.width - p.x
    → ((q : Position) → HasPosition old.area q → p.x ≤ q.x → q.x < p.x + columns ps → q.y ≡ p.y → HasPosition area q)
    → IsSameBeside p ps old new → ChangesWithin area old new
within-beside area p ps old new row left ends inside refused = record {
  same_area = refused.area;
  same_room = refused.room;
  outside = λ q in_own off. same-beside p q ps old new row left ends refused in_own (λ same. apart q.x p.x (columns ps)
      (λ from to. off (inside q in_own from to same)));
}
