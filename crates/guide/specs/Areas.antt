-- An area divided by rows.
use Rattle.std.specs.Prelude.{ℕ, ◌≡◌, ◌+◌, ◌-◌, List, [], ◌∷◌}
use Rattle.ratatui_core.specs.Layout.{Rect}

-- the rectangle has the columns of another one, and these rows
pub record TakesRowsOf (area : Rect) (y height : ℕ) (r : Rect) : Type 0 where
  pub across : (r.x ≡ area.x) × (r.width ≡ area.width)
  pub from : r.y ≡ y
  pub count : r.height ≡ height

-- the first row, and all rows below it
abbrev pub IsHeadAndBody : Rect → List Rect → Type 0
IsHeadAndBody area (head ∷ body ∷ []) = TakesRowsOf area area.y 1 head
    × TakesRowsOf area (area.y + 1) (area.height - 1) body
IsHeadAndBody area _ = ⊥
