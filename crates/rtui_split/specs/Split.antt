-- What a layout makes of an area.
use Rattle.std.specs.Prelude.{ℕ, ◌≡◌, ◌+◌, ◌-◌, ◌*◌, ◌<◌, ◌==◌, ◌≤◌, Bool, true, false, max, min, ⊤, List, []}
use Rattle.std.specs.Prelude.{◌∷◌}
use Rattle.std.specs.Prelude.{◌++◌, sum, sum_by, map, length, All, nat_le, if◌then◌else◌}
use Rattle.std.specs.List.{AllZip}
use Rattle.rtui_geometry.specs.{Rect.doubled, Rect.shrunk, declared.margin.Margin.Margin}
use Rattle.rtui_geometry.specs.{declared.rect.Rect.Rect}
use Rattle.rtui_layout.specs.declared.constraint.Constraint.TheVariants.{Min, Max, Length, Percentage, Ratio}
use Rattle.rtui_layout.specs.declared.constraint.Constraint.TheVariants.{Fill}
use Rattle.rtui_layout.specs.{Layout.LayoutData, Layout.default_layout, declared.layout.Spacing.Spacing}
use Rattle.rtui_layout.specs.{declared.layout.Spacing.TheVariants.Space}
use Rattle.rtui_layout.specs.{declared.constraint.Constraint.Constraint}
use Rattle.rtui_layout.specs.{declared.direction.Direction.Direction}
use Rattle.rtui_split.specs.Cut.{first_cell, area_end, length_of, IsPartAlong, InOrder, IsSpace, AreEdges}
use Rattle.rtui_split.specs.Cut.{AtMostCells, AtLeastCells}
use Rattle.rtui_split.specs.Wishes.{turn, wish, wish_in, wish_before, wished_before, weight_in, level_size}
use Rattle.rtui_split.specs.Wishes.{IsStretchable, TakesNothing, TakesNothingIn}
use Rattle.rtui_split.specs.{Units.cell_units, Units.unit_levels, Units.IsRounding, Spaces.least_spaces}
use Rattle.rtui_split.specs.{Spaces.KeepsWishes, Spaces.IsFlexed, Ragged.Run, Ragged.IsAtMost}
use Rattle.rtui_split.specs.{Ragged.IsLeastRagged}
use Rattle.rtui_layout.specs.declared.flex.Flex.TheVariants as flex

-- no area, at the corner
abbrev pub area_of_nothing : Rect
area_of_nothing = record { x = 0; y = 0; width = 0; height = 0 }

-- the area less a margin, or nothing if it has no room for the margin
abbrev pub inner : Rect → Margin → Rect
inner area m = if nat_le (doubled m.horizontal) area.width
    then (if nat_le (doubled m.vertical) area.height then shrunk area m else area_of_nothing)
    else area_of_nothing

-- how many columns or rows an area has along a direction
abbrev pub cells_of : Direction → Rect → ℕ
cells_of d area = area_end d area - first_cell d area

-- the space between two parts, in units
abbrev pub gap_units : Spacing → ℕ
gap_units (Space n) = n * cell_units
gap_units _ = 0

-- what all spaces are at least, in units
abbrev pub least_units : LayoutData → ℕ
least_units l = least_spaces l.flex (length l.constraints) * gap_units l.spacing

-- the wishes before a turn fit, with the spaces
abbrev pub FitWishes : ℕ → LayoutData → ℕ → Type 0
FitWishes t l cells = wished_before t cells l.constraints + least_units l ≤ cells * cell_units

-- what they leave
abbrev pub left_for : ℕ → LayoutData → ℕ → ℕ
left_for t l cells = cells * cell_units - (wished_before t cells l.constraints + least_units l)

-- so many columns or rows are what a part wishes: exactly, if it wishes a whole number, and else within one;
-- for a `Min` at least
abbrev pub HasWish : ℕ → Constraint → ℕ → Type 0
HasWish cells (Min n) size = n ≤ size
HasWish cells (Length n) size = size ≡ n
HasWish cells (Percentage n) size = (size * 100 < cells * n + 100) × (cells * n < size * 100 + 100)
HasWish cells (Ratio m n) size = (size * max n 1 < cells * m + max n 1)
    × (cells * m < size * max n 1 + max n 1)
HasWish cells (Max n) size = size ≡ n
HasWish cells (Fill n) size = ⊤

-- a part that takes nothing of what is left is not over its wish; a share of the area by less than one
abbrev pub WithinWish : ℕ → Constraint → ℕ → Type 0
WithinWish cells (Length n) size = size ≤ n
WithinWish cells (Percentage n) size = size * 100 < cells * n + 100
WithinWish cells (Ratio m n) size = size * max n 1 < cells * m + max n 1
WithinWish cells (Max n) size = size ≤ n
WithinWish cells _ size = ⊤

-- the exact size of a part at a level of what is left, in units
abbrev pub size_at : ℕ → Bool → ℕ → Constraint → ℕ
size_at cells even level c = level_size false even level (wish cells c) c

-- an exact size, in units, and the part that it is cut to: the whole number of cells below or above
pub record IsCutFrom (d : Direction) (units : ℕ) (p : Rect) : Type 0 where
  pub at_most : AtMostCells units (length_of d p)
  pub at_least : AtLeastCells units (length_of d p)

-- a part is cut from its size at a level
abbrev pub IsCutAt : ℕ → Bool → ℕ → Direction → Constraint → Rect → Type 0
IsCutAt cells even level d c p = IsCutFrom d (size_at cells even level c) p

-- some part takes what is left
abbrev pub HasTaker : List Constraint → Type 0
HasTaker [] = ⊥
HasTaker (Min n ∷ cs) = ⊤
HasTaker (Fill n ∷ cs) = ⊤
HasTaker (_ ∷ cs) = HasTaker cs

-- what all parts weigh together
abbrev pub total_weight : List Constraint → ℕ
total_weight cs = sum_by (weight_in false) cs

-- the sizes at a level fit, with the spaces, and if some part takes what is left, there is no room for a unit
-- more for each weight. Weights count as even if all are 0
abbrev pub IsLevel : LayoutData → ℕ → Bool → ℕ → Type 0
IsLevel l cells even level = (HasTaker l.constraints
    → cells * cell_units < sum_by (size_at cells even (level + unit_levels)) l.constraints + least_units l)
    × (even ≡ (total_weight l.constraints == 0))
    × (sum_by (size_at cells even level) l.constraints + least_units l ≤ cells * cell_units)

-- the parts have their sizes at one such level
abbrev pub SharesRest : LayoutData → ℕ → List Rect → Type 0
SharesRest l cells parts = (even : Bool) × (level : ℕ)
    × AllZip (IsCutAt cells even level l.direction) l.constraints parts × IsLevel l cells even level

-- the parts are cut from exact sizes that leave nothing over but the least spaces
abbrev pub LeavesNothing : LayoutData → ℕ → List Rect → Type 0
LeavesNothing l cells parts = (units : List ℕ) × AllZip (IsCutFrom l.direction) units parts
    × (cells * cell_units ≤ sum units + least_units l)

-- the part has its wish if its turn comes before this one
abbrev pub IsGivenBefore : ℕ → ℕ → Direction → Constraint → Rect → Type 0
IsGivenBefore t cells d c p = turn c < t → HasWish cells c (length_of d p)

-- the part has at least its wish, cut to whole cells, if its turn comes before this one
abbrev pub HasLeast : ℕ → ℕ → Direction → Constraint → Rect → Type 0
HasLeast t cells d c p = turn c < t → AtLeastCells (wish cells c) (length_of d p)

abbrev pub IsWithinWish : ℕ → Direction → Constraint → Rect → Type 0
IsWithinWish cells d c p = WithinWish cells c (length_of d p)

-- no part takes anything of what is left
abbrev pub NoneTakes : List Constraint → Type 0
NoneTakes cs = All TakesNothing cs

-- the part has no more than its wish, and nothing if its turn isn't before this one
abbrev pub IsDeniedFrom : ℕ → ℕ → Direction → Constraint → Rect → Type 0
IsDeniedFrom t cells d c p = AtMostCells (wish cells c) (length_of d p) × (t ≤ turn c → length_of d p ≡ 0)

-- of exact sizes, in units: no more than the wish, if the part takes nothing of what is left; the wish at
-- least, if its turn comes before this one; no more than the wish, and nothing if its turn isn't before it
abbrev pub IsModestAt : ℕ → Constraint → ℕ → Type 0
IsModestAt cells c units = TakesNothing c → units ≤ wish cells c

abbrev pub IsGrantedAt : ℕ → ℕ → Constraint → ℕ → Type 0
IsGrantedAt t cells c units = turn c < t → wish cells c ≤ units

abbrev pub IsDeniedAt : ℕ → ℕ → Constraint → ℕ → Type 0
IsDeniedAt t cells c units = (units ≤ wish cells c) × (t ≤ turn c → units ≡ 0)

-- what a `Min` wishes, and nothing of any other part
abbrev pub least_wish : ℕ → Constraint → ℕ
least_wish cells c = wish_in 0 cells c

-- a `Min` has its wish, or so much at least
abbrev pub HasLevel : ℕ → ℕ → Constraint → ℕ → Type 0
HasLevel cells level c units = min (least_wish cells c) level ≤ units

-- `Min`s that come too short share by level: each has its wish, or the level at least, which is the highest
-- that has room
abbrev pub AreLevelled : ℕ → List Constraint → List ℕ → Type 0
AreLevelled cells cs units = (level : ℕ) × AllZip (HasLevel cells level) cs units
    × (sum units < sum_by (λ c. min (least_wish cells c) (level + 1)) cs)

-- parts of this turn share so much room so that neighbours differ least: each has at least its share,
-- and what is left over goes to some of them, which is less than a unit for each part of the run that
-- has no room
abbrev pub AreLeastRagged : ℕ → ℕ → ℕ → List Constraint → List ℕ → Type 0
AreLeastRagged t cells room cs units = (shares : List ℕ) × (end : Run)
    × IsLeastRagged (map (wish_in t cells) cs) (map (wish_before t cells) cs) room shares end
    × AllZip IsAtMost shares units

-- exact sizes: nobody has more than it wishes but of what is left, all whose wishes fit have theirs,
-- if a turn comes too short nobody at all has more, those after it have nothing, `Min`s share by
-- level, and others so that neighbours differ least, and if all fit, they are the sizes at one level
pub record AreExact (l : LayoutData) (cells : ℕ) (units : List ℕ) : Type 0 where
  pub within : AllZip (IsModestAt cells) l.constraints units
  pub given : (t : ℕ) → t ≤ 5 → FitWishes t l cells → AllZip (IsGrantedAt t cells) l.constraints units
  pub later : (t : ℕ) → t ≤ 5 → (FitWishes t l cells → ⊥)
      → AllZip (IsDeniedAt t cells) l.constraints units
  pub levelled : sum units < wished_before 1 cells l.constraints → AreLevelled cells l.constraints units
  pub ragged : (t : ℕ) → 0 < t → t < 5 → FitWishes t l cells → (FitWishes (t + 1) l cells → ⊥)
      → AreLeastRagged t cells (left_for t l cells) l.constraints units
  pub rest : FitWishes 5 l cells → (even : Bool) × (level : ℕ)
      × (units ≡ map (size_at cells even level) l.constraints) × IsLevel l cells even level

-- exact sizes, in units, and spaces before, between and after them that make up the area and are as the flex
-- says: the parts are these sizes, each edge cut to the nearest column or row. A half, and up to 0.0075 less,
-- goes to the later one
pub record IsLaidOut (l : LayoutData) (start cells : ℕ) (parts : List Rect) (units : List ℕ)
    (first middle last rounding : ℕ) : Type 0 where
  pub sizes : AreExact l cells units
  pub whole : first + sum units + (length l.constraints - 1) * middle + last ≡ cells * cell_units
  pub flexed : IsFlexed l.flex (NoneTakes l.constraints) (length l.constraints) (gap_units l.spacing)
      first middle last
  pub half : IsRounding rounding
  pub edges : AreEdges l.direction start rounding middle first units parts

abbrev pub HasExactPlaces : LayoutData → ℕ → ℕ → List Rect → Type 0
HasExactPlaces l start cells parts = (units : List ℕ) × (first : ℕ) × (middle : ℕ) × (last : ℕ)
    × (rounding : ℕ) × IsLaidOut l start cells parts units first middle last rounding

-- parts of this turn take their wishes one after the other, as far as there is room
abbrev pub TakeInOrder : ℕ → ℕ → ℕ → List Constraint → List ℕ → Type 0
TakeInOrder t cells room [] [] = ⊤
TakeInOrder t cells room (c ∷ cs) (u ∷ us) = (turn c ≡ t → u ≡ min (wish cells c) room)
    × TakeInOrder t cells (room - wish_in t cells c) cs us
TakeInOrder t cells room _ _ = ⊥

-- no part is a `Fill`
abbrev pub HaveNoFill : List Constraint → Type 0
HaveNoFill cs = All (TakesNothingIn true) cs

-- each part has its wish, and one so much beside it: the last of the kind that minds least to be stretched
abbrev pub StretchOne : ℕ → List Constraint → List ℕ → ℕ → Type 0
StretchOne cells cs units left = (before : List Constraint) × (c : Constraint) × (after : List Constraint)
    × (cs ≡ before ++ c ∷ after) × IsStretchable before c after
    × (units ≡ map (wish cells) before ++ (wish cells c + left) ∷ map (wish cells) after)

-- the same, if only `Fill`s take what is left
abbrev pub fill_size : ℕ → Bool → ℕ → Constraint → ℕ
fill_size cells even level c = level_size true even level (wish cells c) c

-- `Fill`s share what is left, with no room for a unit more for each weight; these count as even if all are 0
abbrev pub FillsShare : LayoutData → ℕ → List ℕ → Type 0
FillsShare l cells units = (even : Bool) × (level : ℕ)
    × (units ≡ map (fill_size cells even level) l.constraints)
    × (cells * cell_units < sum_by (fill_size cells even (level + unit_levels)) l.constraints + least_units l)
    × (even ≡ (sum_by (weight_in true) l.constraints == 0))

-- exact sizes with `Flex::Legacy`, one after the other with the same space between two: where a turn comes
-- too short its parts take their wishes in order, and those after it have nothing; if all fit, `Fill`s share
-- what is left, and if there are none, one part has it all
pub record AreInOrder (l : LayoutData) (start cells : ℕ) (parts : List Rect) (units : List ℕ)
    (last rounding : ℕ) : Type 0 where
  pub whole : sum units + least_units l + last ≡ cells * cell_units
  pub first_come : (t : ℕ) → t < 5 → FitWishes t l cells → (FitWishes (t + 1) l cells → ⊥)
      → TakeInOrder t cells (left_for t l cells) l.constraints units
  pub later : (t : ℕ) → t ≤ 5 → (FitWishes t l cells → ⊥)
      → AllZip (IsDeniedAt t cells) l.constraints units
  pub stretched : FitWishes 5 l cells → HaveNoFill l.constraints
      → (left : ℕ) × StretchOne cells l.constraints units left × (last ≡ 0)
  pub filled : FitWishes 5 l cells → (HaveNoFill l.constraints → ⊥) → FillsShare l cells units
  pub half : IsRounding rounding
  pub edges : AreEdges l.direction start rounding (gap_units l.spacing) 0 units parts

abbrev pub HasPlacesInOrder : LayoutData → ℕ → ℕ → List Rect → Type 0
HasPlacesInOrder l start cells parts = (units : List ℕ) × (last : ℕ) × (rounding : ℕ)
    × AreInOrder l start cells parts units last rounding

-- a part for each constraint, inside and in order. Without overlap, all whose wishes fit have at least
-- theirs, and a part alone takes all if spaces stand between parts only. If no part is stretched: nobody has
-- more than it wishes, all whose wishes fit have theirs, if a turn comes too short nothing is left over and
-- those after it have nothing, if all fit, what is left is shared by weight, and what no part takes goes to
-- the spaces as the flex says. With `Flex::Legacy` parts come in order, and one is stretched
pub record IsSplit (l : LayoutData) (area : Rect) (parts : List Rect) : Type 0 where
  pub count : length parts ≡ length l.constraints
  pub inside : All (IsPartAlong l.direction area (first_cell l.direction area)
      (area_end l.direction area)) parts
  pub in_order : IsSpace l.spacing → InOrder l.direction (first_cell l.direction area)
      (area_end l.direction area) parts
  pub least : IsSpace l.spacing → (t : ℕ) → t ≤ 5 → FitWishes t l (cells_of l.direction area)
      → AllZip (HasLeast t (cells_of l.direction area) l.direction) l.constraints parts
  pub alone : IsSpace l.spacing → l.flex ≡ flex.SpaceBetween → length l.constraints ≡ 1
      → All (λ p. length_of l.direction p ≡ cells_of l.direction area) parts
  pub within : IsSpace l.spacing → KeepsWishes l.flex (length l.constraints)
      → AllZip (IsWithinWish (cells_of l.direction area) l.direction) l.constraints parts
  pub given : IsSpace l.spacing → KeepsWishes l.flex (length l.constraints) → (t : ℕ) → t ≤ 5
      → FitWishes t l (cells_of l.direction area)
      → AllZip (IsGivenBefore t (cells_of l.direction area) l.direction) l.constraints parts
  pub short : IsSpace l.spacing → KeepsWishes l.flex (length l.constraints) → (t : ℕ) → t ≤ 5
      → FitWishes 0 l (cells_of l.direction area) → (FitWishes t l (cells_of l.direction area) → ⊥)
      → LeavesNothing l (cells_of l.direction area) parts
  pub later : IsSpace l.spacing → KeepsWishes l.flex (length l.constraints) → (t : ℕ) → t ≤ 5
      → FitWishes 0 l (cells_of l.direction area) → (FitWishes t l (cells_of l.direction area) → ⊥)
      → AllZip (IsDeniedFrom t (cells_of l.direction area) l.direction) l.constraints parts
  pub flexed : IsSpace l.spacing → KeepsWishes l.flex (length l.constraints) → 0 < length l.constraints
      → FitWishes 0 l (cells_of l.direction area)
      → HasExactPlaces l (first_cell l.direction area) (cells_of l.direction area) parts
  pub legacy : IsSpace l.spacing → l.flex ≡ flex.Legacy → 0 < length l.constraints
      → FitWishes 0 l (cells_of l.direction area)
      → HasPlacesInOrder l (first_cell l.direction area) (cells_of l.direction area) parts
  pub rest : IsSpace l.spacing → KeepsWishes l.flex (length l.constraints)
      → FitWishes 5 l (cells_of l.direction area) → SharesRest l (cells_of l.direction area) parts

-- one part in the middle, without margin
abbrev pub centered_layout : Direction → Constraint → LayoutData
centered_layout d c = record default_layout { direction = d; constraints = c ∷ []; flex = flex.Center }
