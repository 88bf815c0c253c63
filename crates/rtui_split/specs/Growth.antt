-- An area, and one that has a column or row more.
use Rattle.std.specs.Prelude.{ℕ, ◌+◌, ◌≤◌, Bool, max, List, All, sum_by, if◌then◌else◌}
use Rattle.std.specs.List.{AllZip}
use Rattle.rtui_geometry.specs.declared.rect.Rect.{Rect}
use Rattle.rtui_layout.specs.Layout.{LayoutData}
use Rattle.rtui_layout.specs.declared.constraint.Constraint.{Constraint}
use Rattle.rtui_layout.specs.declared.constraint.Constraint.TheVariants.{Min, Ratio, Fill}
use Rattle.rtui_split.specs.Split.{size_at, IsCutAt}

-- how many of the parts wish a ratio
abbrev pub one_ratio : Constraint → ℕ
one_ratio (Ratio m n) = 1
one_ratio _ = 0

abbrev pub ratios : List Constraint → ℕ
ratios cs = sum_by one_ratio cs

-- how many units a part that takes what is left may miss, since units aren't divided: one for each of its
-- weight, and one for each ratio
abbrev pub slack : Bool → ℕ → Constraint → ℕ
slack even rs (Min n) = 1 + rs
slack even rs (Fill n) = (if even then max n 1 else n) + rs
slack even rs _ = 0

-- the exact size at a level is at most that of a column or row more at another, but for the slack
abbrev pub IsNoSmaller : ℕ → Bool → ℕ → ℕ → ℕ → Constraint → Type 0
IsNoSmaller cells even level next rs c = size_at cells even level c
    ≤ size_at (cells + 1) even next c + slack even rs c

-- the parts of an area are cut from exact sizes, those of an area of a column or row more too, and no exact
-- size is smaller there
abbrev pub HasGrown : LayoutData → ℕ → List Rect → List Rect → Type 0
HasGrown l cells parts more = (even : Bool) × (level : ℕ) × (next : ℕ)
    × AllZip (IsCutAt cells even level l.direction) l.constraints parts
    × AllZip (IsCutAt (cells + 1) even next l.direction) l.constraints more
    × All (IsNoSmaller cells even level next (ratios l.constraints)) l.constraints
