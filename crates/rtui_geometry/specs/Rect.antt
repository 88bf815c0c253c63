-- A rectangle is the set of its positions. Columns and rows go up to 65535, and edges are cut there.
use Rattle.std.specs.Prelude.{ℕ, ◌+◌, ◌-◌, ◌*◌, ◌<◌, ◌≤◌, min, max, Bool, ◌&&◌, nat_lt, nat_le}
use Rattle.rtui_geometry.specs.{declared.margin.Margin.Margin, declared.position.Position.Position}
use Rattle.rtui_geometry.specs.{declared.rect.Rect.Rect}

-- the column right after the rectangle
abbrev pub right_edge : Rect → ℕ
right_edge r = min (r.x + r.width) 65535

-- the row right below the rectangle
abbrev pub bottom_edge : Rect → ℕ
bottom_edge r = min (r.y + r.height) 65535

-- the position is one of the rectangle's
pub record HasPosition (r : Rect) (p : Position) : Type 0 where
  pub left : r.x ≤ p.x
  pub right : p.x < right_edge r
  pub top : r.y ≤ p.y
  pub bottom : p.y < bottom_edge r

-- whether it is one
abbrev pub has_position : Rect → Position → Bool
has_position r p = nat_le r.x p.x && nat_lt p.x (right_edge r) && nat_le r.y p.y && nat_lt p.y (bottom_edge r)

-- the position at the top left
abbrev pub corner : Rect → Position
corner r = record { x = r.x; y = r.y }

-- neither edge is cut
pub record EdgesFit (r : Rect) : Type 0 where
  pub right : r.x + r.width ≤ 65535
  pub bottom : r.y + r.height ≤ 65535

-- each position of the first is one of the second
abbrev pub IsInside : Rect → Rect → Type 0
IsInside a b = (p : Position) → HasPosition a p → HasPosition b p

-- the rectangle at a corner, its size cut so that both edges fit
abbrev pub cut_rect : ℕ → ℕ → ℕ → ℕ → Rect
cut_rect x y w h = record { x = x; y = y; width = min w (65535 - x); height = min h (65535 - y) }

-- the rectangle from a corner up to two edges, with nothing in it if an edge lies before the corner
abbrev pub spanning : ℕ → ℕ → ℕ → ℕ → Rect
spanning x y right bottom = record { x = x; y = y; width = right - x; height = bottom - y }

-- the smallest rectangle that spans both, and the one that both have
abbrev pub united : Rect → Rect → Rect
united a b = spanning (min a.x b.x) (min a.y b.y) (max (right_edge a) (right_edge b))
    (max (bottom_edge a) (bottom_edge b))

abbrev pub intersected : Rect → Rect → Rect
intersected a b = spanning (max a.x b.x) (max a.y b.y) (min (right_edge a) (right_edge b))
    (min (bottom_edge a) (bottom_edge b))

-- each edge of the first lies after the corner of the second, and the other way round
pub record Intersects (a b : Rect) : Type 0 where
  pub left : a.x < right_edge b
  pub right : b.x < right_edge a
  pub top : a.y < bottom_edge b
  pub bottom : b.y < bottom_edge a

-- some position is one of both
abbrev pub SharePosition : Rect → Rect → Type 0
SharePosition a b = (p : Position) × HasPosition a p × HasPosition b p

-- the margin on both sides, at most 65535
abbrev pub doubled : ℕ → ℕ
doubled m = min (2 * m) 65535

-- the margin on both sides is no larger than the rectangle
pub record HasRoom (r : Rect) (m : Margin) : Type 0 where
  pub columns : doubled m.horizontal ≤ r.width
  pub rows : doubled m.vertical ≤ r.height

-- the rectangle less a margin for which it has room
abbrev pub shrunk : Rect → Margin → Rect
shrunk r m = record {
  x = min (r.x + m.horizontal) 65535;
  y = min (r.y + m.vertical) 65535;
  width = r.width - doubled m.horizontal;
  height = r.height - doubled m.vertical;
}

-- the rectangle with each edge moved out by the margin, as far as the grid goes
abbrev pub grown : Rect → Margin → Rect
grown r m = spanning (r.x - m.horizontal) (r.y - m.vertical) (min (right_edge r + m.horizontal) 65535)
    (min (bottom_edge r + m.vertical) 65535)

-- the position keeps the margin from each edge
pub record KeepsMargin (r : Rect) (m : Margin) (p : Position) : Type 0 where
  pub left : r.x + m.horizontal ≤ p.x
  pub right : p.x + m.horizontal < right_edge r
  pub top : r.y + m.vertical ≤ p.y
  pub bottom : p.y + m.vertical < bottom_edge r

-- the number between two bounds that is nearest to n
abbrev pub between : ℕ → ℕ → ℕ → ℕ
between low high n = max low (min n high)
