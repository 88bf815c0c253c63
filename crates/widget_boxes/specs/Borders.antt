-- Sets of sides of a box.
use Rattle.std.specs.Prelude.{ℕ, List, [], ◌∷◌, codes}
use Rattle.widget_boxes.specs.declared.borders.Borders.{Borders}

-- the four sides by name, each with its bit
abbrev pub border_table : List (List ℕ × ℕ)
border_table = (codes "TOP", 1) ∷ (codes "RIGHT", 2) ∷ (codes "BOTTOM", 4) ∷ (codes "LEFT", 8) ∷ []

-- the bits of a set
abbrev pub sides_of : Borders → ℕ
sides_of b = b.0
