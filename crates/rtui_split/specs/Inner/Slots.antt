-- Words that only private contracts use: parts, what they wish, and the sizes that they have or try.
use Rattle.std.specs.Prelude.{ℕ, ◌≡◌, ◌==◌, min, List, Bool, sum_by, map, All, None, nat_lt, if◌then◌else◌}
use Rattle.rtui_layout.specs.declared.constraint.Constraint.{Constraint}
use Rattle.rtui_split.specs.Wishes.{turn, wish, weight_in, level_size, TakesNothing, TakesNothingIn}
use Rattle.rtui_split.specs.declared.{part.Part.Part, slot.Slot.Slot, level.Takers.Takers}

-- the part of a constraint in an area of so many columns or rows, and its slot before anything is tried
abbrev pub part_in : ℕ → Constraint → Part
part_in cells c = record { constraint = c; wanted = wish cells c }

abbrev pub slot_in : ℕ → Constraint → Slot
slot_in cells c = record { part = part_in cells c; size = 0; base = None }

-- the parts, their constraints, and their sizes
abbrev pub slot_parts : List Slot → List Part
slot_parts ss = map (λ s. s.part) ss

abbrev pub constraints_of : List Slot → List Constraint
constraints_of ss = map (λ s. s.part.constraint) ss

abbrev pub sizes_of : List Slot → List ℕ
sizes_of ss = map (λ s. s.size) ss

-- what all have or try together
abbrev pub total_of : List Slot → ℕ
total_of ss = sum_by (λ s. s.size) ss

-- what holds of each part and its size
abbrev pub AllSlots : (Part → ℕ → Type 0) → List Slot → Type 0
AllSlots R ss = All (λ s. R s.part s.size) ss

-- what a part wishes if its turn comes before this one, and if this is its turn
abbrev pub if_before : ℕ → Part → ℕ
if_before t p = if nat_lt (turn p.constraint) t then p.wanted else 0

abbrev pub if_in : ℕ → Part → ℕ
if_in t p = if turn p.constraint == t then p.wanted else 0

-- each part's wish of this turn, and how high each stands whose turn came before
abbrev pub wishes_of : ℕ → List Slot → List ℕ
wishes_of t ss = map (λ s. if_in t s.part) ss

abbrev pub heights_of : ℕ → List Slot → List ℕ
heights_of t ss = map (λ s. if_before t s.part) ss

-- what all parts wish together whose turn comes before this one, and whose turn this is
abbrev pub wanted_before : ℕ → List Slot → ℕ
wanted_before t ss = sum_by (λ s. if_before t s.part) ss

abbrev pub wanted_in : ℕ → List Slot → ℕ
wanted_in t ss = sum_by (λ s. if_in t s.part) ss

-- what those of this turn have together, if each has its wish, but at most so much, or what it tries
abbrev pub capped_in : ℕ → ℕ → List Slot → ℕ
capped_in t most ss = sum_by (λ s. min (if_in t s.part) most) ss

abbrev pub tries_in : ℕ → List Slot → ℕ
tries_in t ss = sum_by (λ s. min (if_in t s.part) s.size) ss

abbrev pub TriesItsWish : Slot → Type 0
TriesItsWish s = s.size ≡ s.part.wanted

-- the size of a part at a level of what is left
abbrev pub sized : Takers → ℕ → Part → ℕ
sized takers level p = level_size takers.legacy takers.even level p.wanted p.constraint

abbrev pub HasSizeAt : Takers → ℕ → Part → ℕ → Type 0
HasSizeAt takers level p size = size ≡ sized takers level p

-- what all have together at a level
abbrev pub filled_at : Takers → ℕ → List Slot → ℕ
filled_at takers level ss = sum_by (λ s. sized takers level s.part) ss

-- no part takes anything of what is left
abbrev pub TakeNothing : List Slot → Type 0
TakeNothing ss = All (λ s. TakesNothing s.part.constraint) ss

abbrev pub TakeNothingIn : Bool → List Slot → Type 0
TakeNothingIn legacy ss = All (λ s. TakesNothingIn legacy s.part.constraint) ss

-- what all weigh together
abbrev pub weights : Bool → List Slot → ℕ
weights legacy ss = sum_by (λ s. weight_in legacy s.part.constraint) ss
