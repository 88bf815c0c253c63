-- An area cut into parts, with spaces before, between and after them.
use Rattle.std.specs.Prelude.{ℕ, ◌≡◌, ◌+◌, ◌*◌, ◌/◌, ◌<◌, ◌≤◌, ⊤, List, [], ◌∷◌}
use Rattle.rtui_geometry.specs.{Rect.right_edge, Rect.bottom_edge, declared.rect.Rect.Rect}
use Rattle.rtui_layout.specs.declared.direction.{Direction.Direction, Direction.TheVariants.Vertical}
use Rattle.rtui_layout.specs.declared.{direction.Direction.TheVariants.Horizontal, layout.Spacing.Spacing}
use Rattle.rtui_layout.specs.declared.{layout.Spacing.TheVariants.Space}
use Rattle.rtui_split.specs.Units.{cell_units}

-- the first column or row of a rectangle, and the one after its last
abbrev pub first_cell : Direction → Rect → ℕ
first_cell Horizontal r = r.x
first_cell Vertical r = r.y

abbrev pub after_of : Direction → Rect → ℕ
after_of Horizontal r = r.x + r.width
after_of Vertical r = r.y + r.height

-- the same of an area, cut at the edge of the grid
abbrev pub area_end : Direction → Rect → ℕ
area_end Horizontal r = right_edge r
area_end Vertical r = bottom_edge r

-- the columns or rows of a rectangle
abbrev pub length_of : Direction → Rect → ℕ
length_of Horizontal r = r.width
length_of Vertical r = r.height

-- so many units are cut to so many cells: to the whole number below or above
abbrev pub AtMostCells : ℕ → ℕ → Type 0
AtMostCells units cells = cells * cell_units < units + cell_units

abbrev pub AtLeastCells : ℕ → ℕ → Type 0
AtLeastCells units cells = units < cells * cell_units + cell_units

-- from a up to b, each begins where the one before ends or after it
abbrev pub InOrder : Direction → ℕ → ℕ → List Rect → Type 0
InOrder d a b [] = a ≤ b
InOrder d a b (p ∷ ps) = (a ≤ first_cell d p) × InOrder d (after_of d p) b ps

-- in turn a space and a part, and a space at the end: each begins where the one before ends, from a up to b,
-- with nothing left out
abbrev pub Alternate : Direction → ℕ → ℕ → List Rect → List Rect → Type 0
Alternate d a b [] _ = ⊥
Alternate d a b (s ∷ ss) [] = (first_cell d s ≡ a) × (after_of d s ≡ b) × (ss ≡ [])
Alternate d a b (s ∷ ss) (p ∷ ps) = (first_cell d s ≡ a) × (after_of d s ≡ first_cell d p)
    × Alternate d (after_of d p) b ss ps

-- parts of exact sizes, in units, from an exact place on, with the same space between two: their edges are
-- cut to whole cells
abbrev pub AreEdges : Direction → ℕ → ℕ → ℕ → ℕ → List ℕ → List Rect → Type 0
AreEdges d start rounding middle at [] [] = ⊤
AreEdges d start rounding middle at (u ∷ us) (p ∷ ps)
    = (first_cell d p ≡ start + (at + rounding) / cell_units)
    × (after_of d p ≡ start + (at + u + rounding) / cell_units)
    × AreEdges d start rounding middle (at + u + middle) us ps
AreEdges d start rounding middle at _ _ = ⊥

-- the other two sides of a rectangle are those of the area
abbrev pub SpansAcross : Direction → Rect → Rect → Type 0
SpansAcross Horizontal area r = (r.y ≡ area.y) × (r.height ≡ area.height)
SpansAcross Vertical area r = (r.x ≡ area.x) × (r.width ≡ area.width)

-- the rectangle lies between two columns or rows of the area, and spans it across
pub record IsPartAlong (d : Direction) (area : Rect) (a b : ℕ) (r : Rect) : Type 0 where
  pub from : a ≤ first_cell d r
  pub to : after_of d r ≤ b
  pub across : SpansAcross d area r

-- no part covers another
abbrev pub IsSpace : Spacing → Type 0
IsSpace (Space n) = Unit {0}
IsSpace _ = ⊥
