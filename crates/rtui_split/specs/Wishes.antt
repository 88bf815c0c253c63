-- What each part of a layout wishes, and whose wishes come first. Exact sizes are counted in units.
use Rattle.std.specs.Prelude.{ℕ, ◌*◌, ◌/◌, ◌-◌, ◌^◌, ◌<◌, ◌≤◌, min, max, Bool, List, All, sum_by, nat_lt}
use Rattle.std.specs.Prelude.{if◌then◌else◌, ◌==◌, IsTrue, ⊤, false}
use Rattle.rtui_layout.specs.declared.constraint.Constraint.TheVariants.{Min, Max, Length, Percentage, Ratio}
use Rattle.rtui_layout.specs.declared.constraint.Constraint.TheVariants.{Fill}
use Rattle.rtui_layout.specs.declared.constraint.Constraint.{Constraint}
use Rattle.rtui_split.specs.Units.{cell_units, unit_levels}

-- wishes are met in turns, from 0 on; a `Fill` only takes what is left
abbrev pub turn : Constraint → ℕ
turn (Min n) = 0
turn (Length n) = 1
turn (Percentage n) = 2
turn (Ratio m n) = 3
turn (Max n) = 4
turn (Fill n) = 5

-- what a part wishes in an area of so many columns or rows, in units (which are 64 bits)
abbrev pub wish : ℕ → Constraint → ℕ
wish cells (Min n) = n * cell_units
wish cells (Length n) = n * cell_units
wish cells (Percentage n) = cells * n * (cell_units / 100)
wish cells (Ratio m n) = min (cells * m * cell_units / max n 1) (2 ^ 64 - 1)
wish cells (Max n) = n * cell_units
wish cells (Fill n) = 0

-- how much a part takes of what is left, beside others; with `Flex::Legacy` a `Min` takes nothing
abbrev pub weight_in : Bool → Constraint → ℕ
weight_in legacy (Min n) = if legacy then 0 else 1
weight_in legacy (Fill n) = n
weight_in legacy _ = 0

-- the exact size of a part at a level of what is left: its wish, or its share if that is more
abbrev pub level_size : Bool → Bool → ℕ → ℕ → Constraint → ℕ
level_size legacy even level wanted (Min n) = if legacy then wanted else max wanted (level / unit_levels)
level_size legacy even level wanted (Fill n) = (if even then max n 1 else n) * level / unit_levels
level_size legacy even level wanted _ = wanted

-- what a part wishes, if this is its turn, and if its turn comes before this one
abbrev pub wish_in : ℕ → ℕ → Constraint → ℕ
wish_in t cells c = if turn c == t then wish cells c else 0

abbrev pub wish_before : ℕ → ℕ → Constraint → ℕ
wish_before t cells c = if nat_lt (turn c) t then wish cells c else 0

-- what all wish whose turn comes before this one
abbrev pub wished_before : ℕ → ℕ → List Constraint → ℕ
wished_before t cells cs = sum_by (wish_before t cells) cs

-- how little a part minds to be stretched, if `Flex::Legacy` leaves room that no part takes
abbrev pub patience : Constraint → ℕ
patience (Max n) = 0
patience (Length n) = 1
patience (Percentage n) = 2
patience (Ratio m n) = 3
patience (Min n) = 4
patience (Fill n) = 5

-- of the parts before it, it, and those after it, this one is the last of the kind that minds least
pub record IsStretchable (before : List Constraint) (c : Constraint) (after : List Constraint) : Type 0 where
  pub no_less : All (λ d. patience d ≤ patience c) before
  pub less : All (λ d. patience d < patience c) after

-- the part takes nothing of what is left; with `Flex::Legacy` a `Min` takes nothing either
abbrev pub TakesNothingIn : Bool → Constraint → Type 0
TakesNothingIn legacy (Fill n) = ⊥
TakesNothingIn legacy (Min n) = IsTrue legacy
TakesNothingIn legacy _ = ⊤

abbrev pub TakesNothing : Constraint → Type 0
TakesNothing c = TakesNothingIn false c
