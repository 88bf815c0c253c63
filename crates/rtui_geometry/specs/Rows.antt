-- The rows, the columns and the positions of a rectangle, as lists.
use Rattle.std.specs.Prelude.{◌≡◌, ℕ, ◌-◌, ◌<◌, ◌≤◌, ◌⊎◌, ◌↔◌, List, [], ◌∷◌, ◌++◌, map}
use Rattle.std.specs.List.{range_with_len, flat_map, All, Any, AllPairs, Contains}
use Rattle.rtui_geometry.specs.{declared.position.Position.Position, declared.rect.Rect.Rect}
use Rattle.rtui_geometry.specs.Rect.{right_edge, bottom_edge, cut_rect, HasPosition}

-- the numbers from one up to another, without that
abbrev pub numbers : ℕ → ℕ → List ℕ
numbers from to = range_with_len from (to - from)

-- row y of the rectangle
abbrev pub row_at : Rect → ℕ → Rect
row_at r y = cut_rect r.x y r.width 1

-- column x of the rectangle
abbrev pub column_at : Rect → ℕ → Rect
column_at r x = cut_rect x r.y 1 r.height

-- the rows from top to bottom
abbrev pub rows_of : Rect → List Rect
rows_of r = map (row_at r) (numbers r.y (bottom_edge r))

-- the columns from left to right
abbrev pub columns_of : Rect → List Rect
columns_of r = map (column_at r) (numbers r.x (right_edge r))

-- the positions of row y from column x on
abbrev pub positions_in : Rect → ℕ → ℕ → List Position
positions_in r x y = map (λ k. record { x = k; y = y }) (numbers x (right_edge r))

-- the positions row by row
abbrev pub positions_of : Rect → List Position
positions_of r = flat_map (positions_in r r.x) (numbers r.y (bottom_edge r))

-- the positions of some rows, of the first of them from column x on
abbrev pub positions_from : Rect → ℕ → List ℕ → List Position
positions_from r x [] = []
positions_from r x (y ∷ ys) = positions_in r x y ++ flat_map (positions_in r r.x) ys

-- where the walk over the positions stands: in a column of the rectangle, if it has one
pub record IsPlace (r : Rect) (p : Position) : Type 0 where
  pub left : r.x ≤ p.x
  pub right : r.x < right_edge r → p.x < right_edge r
  pub top : r.y ≤ p.y

-- the first stands in a row above the second, or left of it in the same row
abbrev pub ComesBefore : Position → Position → Type 0
ComesBefore p q = (p.y < q.y) ⊎ ((p.y ≡ q.y) × (p.x < q.x))

-- the list has each position of the rectangle once, row by row
pub record ListsPositions (r : Rect) (ps : List Position) : Type 0 where
  pub each : (p : Position) → Contains ps p ↔ HasPosition r p
  pub order : AllPairs ComesBefore ps

-- the rectangle cut into rows, from top to bottom
pub record ListsRows (r : Rect) (rows : List Rect) : Type 0 where
  pub each : (p : Position) → HasPosition r p ↔ Any (λ row. HasPosition row p) rows
  pub height : All (λ row. row.height ≡ 1) rows
  pub order : AllPairs (λ row next. row.y < next.y) rows

-- the rectangle cut into columns, from left to right
pub record ListsColumns (r : Rect) (columns : List Rect) : Type 0 where
  pub each : (p : Position) → HasPosition r p ↔ Any (λ column. HasPosition column p) columns
  pub width : All (λ column. column.width ≡ 1) columns
  pub order : AllPairs (λ column next. column.x < next.x) columns
