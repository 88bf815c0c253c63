-- Words that only private contracts use: how so much room is shared.
use Rattle.std.specs.Prelude.{ℕ, ◌≡◌, ◌==◌, ◌+◌, ◌-◌, ◌<◌, ◌≤◌, ◌^◌, ⊤, min, Bool, true, false, List, [], ◌∷◌}
use Rattle.std.specs.Prelude.{length, slice_set, slice_index_or}
use Rattle.std.specs.List.{AllZip}
use Rattle.rtui_layout.specs.declared.constraint.Constraint.{Constraint, TheVariants.Max}
use Rattle.rtui_split.specs.Inner.Slots.{AllSlots, sizes_of, constraints_of, total_of, if_in, wanted_before}
use Rattle.rtui_split.specs.Inner.Slots.{capped_in, wishes_of, heights_of, HasSizeAt, filled_at}
use Rattle.rtui_split.specs.Inner.Slots.{TakeNothingIn}
use Rattle.rtui_split.specs.Inner.Slots.{weights}
use Rattle.rtui_split.specs.{declared.part.Part.Part, declared.slot.Slot.Slot, Units.unit_levels, Wishes.turn}
use Rattle.rtui_split.specs.{Wishes.patience, Wishes.TakesNothing, Ragged.Run, Ragged.IsAtMost}
use Rattle.rtui_split.specs.{Ragged.IsLeastRagged}

-- the part's turn is this one
abbrev pub IsOfTurn : ℕ → Part → Type 0
IsOfTurn t p = turn p.constraint ≡ t

-- a part of this turn has so much at least, or its wish
abbrev pub HasAtLeast : ℕ → ℕ → Part → ℕ → Type 0
HasAtLeast t level p size = min (if_in t p) level ≤ size

-- each of them has what it tried, or its wish
abbrev pub HaveTried : ℕ → List Slot → List Slot → Type 0
HaveTried t old new = AllZip (λ o n. HasAtLeast t o.size n.part n.size) old new

-- parts of the first turn that come too short share by level: each has its wish, or the level at least, which
-- is the highest that has room
abbrev pub IsLevelled : List Slot → Type 0
IsLevelled ss = (level : ℕ) × AllSlots (HasAtLeast 0 level) ss × (total_of ss < capped_in 0 (level + 1) ss)

-- parts of this turn take their wishes one after the other, as far as there is room
abbrev pub ComeFirst : ℕ → ℕ → List Slot → Type 0
ComeFirst t room [] = ⊤
ComeFirst t room (s ∷ ss) = (IsOfTurn t s.part → s.size ≡ min s.part.wanted room)
    × ComeFirst t (room - if_in t s.part) ss

-- those before a turn have their wishes, nobody has more, and those after it have nothing
pub record KeepsToTurn (t : ℕ) (p : Part) (size : ℕ) : Type 0 where
  pub at_most : size ≤ p.wanted
  pub before : turn p.constraint < t → size ≡ p.wanted
  pub later : t < turn p.constraint → size ≡ 0

-- the part has its wish if its turn comes before this one
abbrev pub IsGranted : ℕ → Part → ℕ → Type 0
IsGranted t p size = turn p.constraint < t → p.wanted ≤ size

-- a part that takes nothing of what is left has at most its wish
abbrev pub IsModest : Part → ℕ → Type 0
IsModest p size = TakesNothing p.constraint → size ≤ p.wanted

-- the part has no more than its wish, and nothing if its turn isn't before this one
abbrev pub IsDenied : ℕ → Part → ℕ → Type 0
IsDenied t p size = (size ≤ p.wanted) × (t ≤ turn p.constraint → size ≡ 0)

-- the sizes are those at a level; weights count as even if all are 0
pub record AreSized (legacy even : Bool) (level : ℕ) (ss : List Slot) : Type 0 where
  pub each : AllSlots (HasSizeAt (record { legacy = legacy; even = even }) level) ss
  pub weighed : even ≡ (weights legacy ss == 0)

-- what all have together at a level that is a unit higher
abbrev pub next_filled : Bool → Bool → ℕ → List Slot → ℕ
next_filled legacy even level ss =
    filled_at (record { legacy = legacy; even = even }) (level + unit_levels) ss

-- the sizes are those at a level, which is the highest that has room, but for less than a unit, if some part
-- takes what is left
abbrev pub IsFilled : Bool → List Slot → ℕ → Type 0
IsFilled legacy ss room = (even : Bool) × (level : ℕ) × AreSized legacy even level ss
    × ((TakeNothingIn legacy ss → ⊥) → room < next_filled legacy even level ss)

-- parts of this turn share so much room so that neighbours differ least: each has at least its share,
-- and what is left over goes to some of them, which is less than a unit for each part of the run that
-- has no room
abbrev pub DifferLeast : ℕ → ℕ → List Slot → Type 0
DifferLeast t room ss = (shares : List ℕ) × (end : Run)
    × IsLeastRagged (wishes_of t ss) (heights_of t ss) room shares end × AllZip IsAtMost shares (sizes_of ss)

-- sizes in so much room: wishes in turns, nothing over what takes part in the rest, and all of the room if a
-- turn comes too short, with nothing for those after it, or if no part takes anything of what is left
pub record IsShared (legacy : Bool) (ss : List Slot) (room : ℕ) (left : ℕ) : Type 0 where
  pub total : total_of ss + left ≤ room
  pub granted : (t : ℕ) → t ≤ 5 → wanted_before t ss ≤ room → AllSlots (IsGranted t) ss
  pub at_most : AllSlots IsModest ss
  pub short : (t : ℕ) → t ≤ 5 → room < wanted_before t ss → total_of ss ≡ room
  pub later : (t : ℕ) → t ≤ 5 → room < wanted_before t ss → AllSlots (IsDenied t) ss
  pub rest : room < 2 ^ 43 → TakeNothingIn legacy ss → total_of ss + left ≡ room
  pub filled : room < 2 ^ 43 → wanted_before 5 ss ≤ room → IsFilled legacy ss room
  pub spent : room < 2 ^ 43 → wanted_before 5 ss ≤ room → (TakeNothingIn legacy ss → ⊥) → left ≡ 0
  pub levelled : legacy ≡ false → total_of ss < wanted_before 1 ss → IsLevelled ss
  pub first_come : legacy ≡ true → (t : ℕ) → t < 5 → wanted_before t ss ≤ room
      → room < wanted_before (t + 1) ss → ComeFirst t (room - wanted_before t ss) ss
  pub ragged : legacy ≡ false → (t : ℕ) → 0 < t → t < 5 → wanted_before t ss ≤ room
      → room < wanted_before (t + 1) ss → DifferLeast t (room - wanted_before t ss) ss

-- how little the part at a place minds to be stretched
abbrev pub patience_at : List Constraint → ℕ → ℕ
patience_at cs k = patience (slice_index_or cs k (Max 0))

-- the part at this place is the last of the kind that minds least to be stretched
pub record IsStretchableAt (cs : List Constraint) (at : ℕ) : Type 0 where
  pub within : at < length cs
  pub no_less : (k : ℕ) → k < at → patience_at cs k ≤ patience_at cs at
  pub less : (k : ℕ) → at < k → k < length cs → patience_at cs k < patience_at cs at

-- so much is added to the size of that part, and the others have the sizes that they had
abbrev pub IsStretched : List ℕ → List Slot → ℕ → Type 0
IsStretched old new left = (at : ℕ) × IsStretchableAt (constraints_of new) at
    × (sizes_of new ≡ slice_set old at (slice_index_or old at 0 + left))
