-- Words that only private contracts use: the spaces beside the parts, and where what is left goes, in units.
use Rattle.std.specs.Prelude.{ℕ, ◌≡◌, ◌<◌, ◌+◌, ◌-◌, ◌*◌, ◌/◌, ◌^◌, ◌≤◌, Bool, true, false, List, length, map}
use Rattle.std.specs.Prelude.{sum_by, ⊤}
use Rattle.rtui_geometry.specs.declared.rect.Rect.{Rect}
use Rattle.rtui_layout.specs.declared.flex.Flex.TheVariants.{End, Center, SpaceBetween, SpaceAround}
use Rattle.rtui_layout.specs.declared.flex.Flex.TheVariants.{SpaceEvenly}
use Rattle.rtui_layout.specs.declared.{direction.Direction.Direction, flex.Flex.Flex}
use Rattle.rtui_split.specs.Inner.Slots.{AllSlots, sizes_of, total_of, wanted_before, TakeNothing}
use Rattle.rtui_split.specs.Inner.Slots.{TakeNothingIn}
use Rattle.rtui_split.specs.Inner.Shares.{IsGranted, IsModest, IsDenied, IsLevelled, ComeFirst, DifferLeast}
use Rattle.rtui_split.specs.Inner.Shares.{AreSized, next_filled, IsStretched}
use Rattle.rtui_split.specs.{declared.flex.Spaces.Spaces, declared.flex.Room.Room, declared.slot.Slot.Slot}
use Rattle.rtui_split.specs.{Cut.length_of, Spaces.least_spaces, Spaces.IsFlexed}

-- the sizes and the spaces before and between them fit in so much room
abbrev pub HasRoomForSpaces : Spaces → ℕ → List ℕ → Type 0
HasRoomForSpaces spaces whole sizes = spaces.first + sum_by (λ n. n + spaces.middle) sizes
    ≤ whole + spaces.middle

-- a size and the rectangle that it is cut to
abbrev pub IsCutTo : (ℕ → ℕ → Type 0) → Direction → ℕ → Rect → Type 0
IsCutTo R d units r = R units (length_of d r)

-- what all spaces are at least
abbrev pub least_gaps : Room → List Slot → ℕ
least_gaps room ss = least_spaces room.flex (length ss) * room.gap

-- the wishes before a turn fit, with the spaces, and what they leave
abbrev pub FitsBefore : ℕ → List Slot → Room → Type 0
FitsBefore t ss room = wanted_before t ss + least_gaps room ss ≤ room.whole

abbrev pub left_in : ℕ → List Slot → Room → ℕ
left_in t ss room = room.whole - (wanted_before t ss + least_gaps room ss)

-- the sizes with their spaces are the whole room, and the spaces are as the flex says
abbrev pub IsFlexedIn : List Slot → Room → Spaces → Type 0
IsFlexedIn ss room spaces = (last : ℕ)
    × (spaces.first + total_of ss + (length ss - 1) * spaces.middle + last ≡ room.whole)
    × IsFlexed room.flex (TakeNothing ss) (length ss) room.gap spaces.first spaces.middle last

-- the sizes are those at a level, and with the spaces there is no room for a unit more for each weight
abbrev pub IsFilledBeside : List Slot → Room → Type 0
IsFilledBeside ss room = (even : Bool) × (level : ℕ) × AreSized false even level ss
    × ((TakeNothingIn false ss → ⊥) → room.whole < next_filled false even level ss + least_gaps room ss)
    × (total_of ss + least_gaps room ss ≤ room.whole)

-- each part whose wishes fit has at least its wish, and sizes and spaces fit: also where a part is stretched
pub record GivesWishes (ss : List Slot) (room : Room) (spaces : Spaces) : Type 0 where
  pub granted : (t : ℕ) → t ≤ 5 → FitsBefore t ss room → AllSlots (IsGranted t) ss
  pub fit : (t : ℕ) → FitsBefore t ss room → HasRoomForSpaces spaces room.whole (sizes_of ss)

-- sizes and spaces in so much room: wishes in turns, and nothing over what takes part in the rest
pub record IsArranged (ss : List Slot) (room : Room) (spaces : Spaces) : Type 0 where
  pub at_most : AllSlots IsModest ss
  pub short : (t : ℕ) → t ≤ 5 → FitsBefore 0 ss room → (FitsBefore t ss room → ⊥)
      → room.whole ≤ total_of ss + least_gaps room ss
  pub later : (t : ℕ) → t ≤ 5 → FitsBefore 0 ss room → (FitsBefore t ss room → ⊥)
      → AllSlots (IsDenied t) ss
  pub flexed : 0 < length ss → room.whole < 2 ^ 43 → FitsBefore 0 ss room → IsFlexedIn ss room spaces
  pub filled : room.whole < 2 ^ 43 → FitsBefore 5 ss room → IsFilledBeside ss room
  pub levelled : total_of ss < wanted_before 1 ss → IsLevelled ss
  pub ragged : (t : ℕ) → 0 < t → t < 5 → FitsBefore t ss room → (FitsBefore (t + 1) ss room → ⊥)
      → DifferLeast t (left_in t ss room) ss

-- with `Flex::Legacy`, sizes and spaces in so much room: where a turn comes too short its parts take their
-- wishes one after the other, and those after it have nothing; if all fit, `Fill`s share what is left, and if
-- there are none, one part is stretched over it
pub record IsLegacy (ss : List Slot) (room : Room) (spaces : Spaces) : Type 0 where
  pub gaps : (spaces.first ≡ 0) × (spaces.middle ≡ room.gap)
  pub within : FitsBefore 0 ss room → total_of ss + least_gaps room ss ≤ room.whole
  pub first_come : (t : ℕ) → t < 5 → FitsBefore t ss room → (FitsBefore (t + 1) ss room → ⊥)
      → ComeFirst t (left_in t ss room) ss
  pub later : (t : ℕ) → t ≤ 5 → FitsBefore 0 ss room → (FitsBefore t ss room → ⊥)
      → AllSlots (IsDenied t) ss
  pub stretched : 0 < length ss → room.whole < 2 ^ 43 → FitsBefore 5 ss room → TakeNothingIn true ss
      → (left : ℕ) × IsStretched (map (λ s. s.part.wanted) ss) ss left
      × (total_of ss + least_gaps room ss ≡ room.whole)
  pub filled : room.whole < 2 ^ 43 → FitsBefore 5 ss room → (TakeNothingIn true ss → ⊥)
      → (even : Bool) × (level : ℕ) × AreSized true even level ss
      × (room.whole < next_filled true even level ss + least_gaps room ss)

-- how much of what is left comes before the first part, if the spaces between two have their size
abbrev pub lead : Flex → ℕ → ℕ
lead End left = left
lead Center left = left / 2
lead _ left = 0

-- the first space, and one between two, if the spaces of so many parts share so much
abbrev pub first_share : Flex → ℕ → ℕ → ℕ
first_share SpaceAround n rest = rest / (2 * n)
first_share SpaceEvenly n rest = rest / (n + 1)
first_share _ n rest = 0

abbrev pub middle_share : Flex → ℕ → ℕ → ℕ
middle_share SpaceBetween n rest = rest / (n - 1)
middle_share SpaceAround n rest = 2 * (rest / (2 * n))
middle_share SpaceEvenly n rest = rest / (n + 1)
middle_share _ n rest = 0

-- the spaces share what is left
abbrev pub IsSpread : Flex → Type 0
IsSpread SpaceBetween = ⊤
IsSpread SpaceAround = ⊤
IsSpread SpaceEvenly = ⊤
IsSpread _ = ⊥
