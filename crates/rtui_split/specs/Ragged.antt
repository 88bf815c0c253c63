-- Room that is too little for all wishes, shared so that neighbours differ least. Of two lists one
-- says what each part wishes of this room, the other how high each part stands whose turn came before;
-- each says 0 of the other parts, and of places beyond the last. All are counted in units.
use Rattle.std.specs.Prelude.{ℕ, ◌≡◌, ◌==◌, ◌+◌, ◌-◌, ◌*◌, ◌<◌, ◌≤◌, List, length, sum, nat_lt, slice_index}
use Rattle.std.specs.Prelude.{if◌then◌else◌}
use Rattle.std.specs.List.{AllZip}

-- neighbouring parts, from the first up to before another, that may rise from a height
pub record Run : Type 0 where
  pub first : ℕ
  pub after : ℕ
  pub height : ℕ

-- it is a longest row of neighbours that wish more than its height
pub record IsRunOf (wishes : List ℕ) (r : Run) : Type 0 where
  pub some : r.first < r.after
  pub wish : (i : ℕ) → r.first ≤ i → i < r.after → r.height < slice_index wishes i
  pub before : (i : ℕ) → i + 1 ≡ r.first → slice_index wishes i ≤ r.height
  pub ended : slice_index wishes r.after ≤ r.height

-- how many parts it has
abbrev pub run_length : Run → ℕ
run_length r = r.after - r.first

-- one more than what the difference to a neighbour grows by if each part of the run gets a unit: it
-- shrinks beside a part that stands higher, and grows beside another; at the edge there is none
abbrev pub beside : List ℕ → Run → ℕ → ℕ
beside standing r i = if nat_lt r.height (slice_index standing i) then 0 else 2

abbrev pub growth_before : List ℕ → Run → ℕ
growth_before standing r = if r.first == 0 then 1 else beside standing r (r.first - 1)

abbrev pub growth_after : List ℕ → Run → ℕ
growth_after standing r = if r.after == length standing then 1 else beside standing r r.after

-- two more than what both differences grow by
abbrev pub growth : List ℕ → Run → ℕ
growth standing r = growth_before standing r + growth_after standing r

-- for each unit of room the differences grow by no more than with the other run: the growths less two,
-- over the lengths, without quotients
abbrev pub CostsNoMore : List ℕ → Run → Run → Type 0
CostsNoMore standing a b = growth standing a * run_length b + 2 * run_length a
    ≤ growth standing b * run_length a + 2 * run_length b

-- which of the runs of one price come first, by the last difference that each changes: those that make
-- it grow, the last place first; then those that change none; then those that make it shrink, the
-- first place first
abbrev pub rank_at : ℕ → ℕ → ℕ → ℕ
rank_at parts grows place = if grows == 2 then parts - place
    else (if grows == 1 then parts else parts + place)

abbrev pub rank : List ℕ → Run → ℕ
rank standing r = if growth_after standing r == 1
    then rank_at (length standing) (growth_before standing r) r.first
    else rank_at (length standing) (growth_after standing r) r.after

-- a run comes no later than another: it is cheaper; or it costs as much, and is before it in rank; or
-- in that they are the same, too, and it is no higher
abbrev pub ComesNoLater : List ℕ → Run → Run → Type 0
ComesNoLater standing a b = CostsNoMore standing a b × (CostsNoMore standing b a
    → (rank standing a ≤ rank standing b) × (rank standing b ≤ rank standing a → a.height ≤ b.height))

abbrev pub IsAtMost : ℕ → ℕ → Type 0
IsAtMost a b = a ≤ b

-- each part of the run has more than its height
abbrev pub HasRisen : List ℕ → Run → Type 0
HasRisen shares r = (i : ℕ) → r.first ≤ i → i < r.after → r.height < slice_index shares i

-- none has
abbrev pub HasNotRisen : List ℕ → Run → Type 0
HasNotRisen shares r = (i : ℕ) → r.first ≤ i → i < r.after → slice_index shares i ≤ r.height

-- the least ragged sharing: runs rise in this order, a unit for each of their parts, up to the first
-- that has no room, and no further
pub record IsLeastRagged (wishes standing : List ℕ) (room : ℕ) (shares : List ℕ) (end : Run) : Type 0 where
  pub run : IsRunOf wishes end
  pub within : AllZip IsAtMost shares wishes
  pub risen : (r : Run) → IsRunOf wishes r → (ComesNoLater standing end r → ⊥) → HasRisen shares r
  pub later : (r : Run) → IsRunOf wishes r → ComesNoLater standing end r → HasNotRisen shares r
  pub fits : sum shares ≤ room
  pub full : room < sum shares + run_length end
