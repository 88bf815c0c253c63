-- What the rows, the columns and the positions of a rectangle are: all of it, in order, each part once.
use Rattle.std.proofs.Common.{◌≡◌, ℕ, ◌+◌, ◌-◌, ◌<◌, ◌≤◌, List, map, refl, arith, subst, inl, inr}
use Rattle.std.specs.List.{range_with_len, All, Any, AllPairs, Contains}
use Rattle.std.proofs.lemmas.List.Elements.{All-contains}
use Rattle.rtui_geometry.specs.{declared.position.Position.Position, declared.rect.Rect.Rect}
use Rattle.rtui_geometry.specs.Rect.{right_edge, bottom_edge, HasPosition, IsInside}
use Rattle.rtui_geometry.specs.Rows.{row_at, column_at, rows_of, columns_of, positions_in, positions_of, ComesBefore}
use Rattle.rtui_geometry.specs.Rows.{ListsPositions, ListsRows, ListsColumns}
use Rattle.rtui_geometry.proofs.Lists.{All-map_range, Contains-map_range, AllPairs-map_range, All-flat_map_range}
use Rattle.rtui_geometry.proofs.Lists.{Contains-flat_map_range, AllPairs-flat_map_range}

-- the position in a column of a row
abbrev at : ℕ → ℕ → Position
at y x = record { x = x; y = y }

all_in : (r : Rect) → All (HasPosition r) (positions_of r)
all_in r =
    All-flat_map_range (positions_in r r.x) (HasPosition r) r.y (bottom_edge r - r.y)
    (λ y top bottom. All-map_range (at y) (HasPosition r) r.x (right_edge r - r.x)
    (λ x left right. record { left = left; right = omega arith; top = top; bottom = omega arith }))

comes : (r : Rect) (p : Position) → HasPosition r p → Contains (positions_of r) p
comes r p h =
    Contains-flat_map_range (positions_in r r.x) r.y (bottom_edge r - r.y) p.y p h.top (omega arith)
    (Contains-map_range (at p.y) r.x (right_edge r - r.x) p.x h.left (omega arith))

in_order : (r : Rect) → AllPairs ComesBefore (positions_of r)
in_order r =
    AllPairs-flat_map_range (positions_in r r.x) ComesBefore
    (λ y. AllPairs-map_range (at y) ComesBefore r.x (right_edge r - r.x) (λ k l lt. inr (refl, lt)))
    (λ y z lt. All-map_range (at y) (λ p. All (ComesBefore p) (positions_in r r.x z)) r.x (right_edge r - r.x)
    (λ k low high. All-map_range (at z) (ComesBefore (at y k)) r.x (right_edge r - r.x) (λ l low' high'. inl lt)))
    r.y (bottom_edge r - r.y)

pub lists_positions : (r : Rect) → ListsPositions r (positions_of r)
lists_positions r = record {
  each = λ p. (λ h. All-contains (HasPosition r) (positions_of r) p (all_in r) h, comes r p);
  order = in_order r;
}

-- an element of a mapped range that has what is asked
any_map : (f : ℕ → Rect) (P : Rect → Type 0) (a n k : ℕ) → a ≤ k → k < a + n → P (f k) → Any P (map f (range_with_len a n))
any_map f P a n k low high h =
    let has : Contains (map f (range_with_len a n)) (f k) = Contains-map_range f a n k low high in
    (has.0, f k, has.1, has.2, h)

-- a position of one of the parts
of_any : (parts : List Rect) (p : Position) (r : Rect) → All (λ part. IsInside part r) parts
    → Any (λ part. HasPosition part p) parts → HasPosition r p
of_any parts p r inside any = subst (λ part. IsInside part r) any.3 (inside any.0 any.1 any.2) p any.4

-- the row with the position, and what each row has
row_of : (r : Rect) (p : Position) → HasPosition r p → Any (λ row. HasPosition row p) (rows_of r)
row_of r p h = any_map (row_at r) (λ row. HasPosition row p) r.y (bottom_edge r - r.y) p.y h.top (omega arith)
    (record { left = h.left; right = omega arith; top = omega arith; bottom = omega arith })

rows_inside : (r : Rect) → All (λ row. IsInside row r) (rows_of r)
rows_inside r = All-map_range (row_at r) (λ row. IsInside row r) r.y (bottom_edge r - r.y)
    (λ y top bottom p h. record { left = h.left; right = omega arith; top = omega arith; bottom = omega arith })

pub lists_rows : (r : Rect) → ListsRows r (rows_of r)
lists_rows r = record {
  each = λ p. (row_of r p, λ any. of_any (rows_of r) p r (rows_inside r) any);
  height = All-map_range (row_at r) (λ row. row.height ≡ 1) r.y (bottom_edge r - r.y) (λ y top bottom. omega arith);
  order = AllPairs-map_range (row_at r) (λ row next. row.y < next.y) r.y (bottom_edge r - r.y) (λ k l lt. lt);
}

column_of : (r : Rect) (p : Position) → HasPosition r p → Any (λ column. HasPosition column p) (columns_of r)
column_of r p h = any_map (column_at r) (λ column. HasPosition column p) r.x (right_edge r - r.x) p.x h.left (omega arith)
    (record { left = omega arith; right = omega arith; top = h.top; bottom = omega arith })

columns_inside : (r : Rect) → All (λ column. IsInside column r) (columns_of r)
columns_inside r = All-map_range (column_at r) (λ column. IsInside column r) r.x (right_edge r - r.x)
    (λ x left right p h. record { left = omega arith; right = omega arith; top = h.top; bottom = omega arith })

pub lists_columns : (r : Rect) → ListsColumns r (columns_of r)
lists_columns r = record {
  each = λ p. (column_of r p, λ any. of_any (columns_of r) p r (columns_inside r) any);
  width = All-map_range (column_at r) (λ column. column.width ≡ 1) r.x (right_edge r - r.x) (λ x left right. omega arith);
  order = AllPairs-map_range (column_at r) (λ column next. column.x < next.x) r.x (right_edge r - r.x) (λ k l lt. lt);
}
