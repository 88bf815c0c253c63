-- What parts try and get whose turn comes too short.
use Rattle.std.specs.List.{AllZip}
use Rattle.std.proofs.Common.{ℕ, ◌≡◌, ◌<◌, ◌≤◌, ◌+◌, ◌-◌, min, List, [], ◌∷◌, ◌++◌, All, take, length, set, sym, subst, arith}
use Rattle.std.proofs.lemmas.{List.take_more_set, Bool.Decides.nat_tests, List.Sums.sum_by-cons, List.Sums.sum_by-le-sum_by}
use Rattle.std.proofs.lemmas.{List.Sums.sum-map, List.Elements.All-weaker}
use Rattle.rtui_split.specs.Inner.Slots.{slot_parts, sizes_of, total_of, if_in, if_before, wishes_of, heights_of, wanted_before}
use Rattle.rtui_split.specs.Inner.Slots.{wanted_in, capped_in, tries_in, TriesItsWish}
use Rattle.rtui_split.specs.Inner.Shares.{IsOfTurn, HasAtLeast, HaveTried, IsLevelled, ComeFirst, DifferLeast}
use Rattle.rtui_split.specs.{declared.part.Part.Part, declared.slot.Slot.Slot, Ragged.Run, Ragged.IsAtMost, Ragged.IsLeastRagged}
use Rattle.rtui_split.proofs.{ShareLemmas.before-first, Lists.AllZip-all, Lists.sum_le, SlotLemmas.same_map, SlotLemmas.same_sum}

-- nobody tries more than it wishes, nor all together more than they try
pub tries_few : (t : ℕ) (ss : List Slot) → tries_in t ss ≤ wanted_in t ss
tries_few t ss = sum_by-le-sum_by (λ s. min (if_in t s.part) s.size) (λ s. if_in t s.part) ss (λ s. omega arith)

tries_within : (t : ℕ) (ss : List Slot) → tries_in t ss ≤ total_of ss
tries_within t ss = sum_by-le-sum_by (λ s. min (if_in t s.part) s.size) (λ s. s.size) ss (λ s. omega arith)

-- if all try the same, they have it or their wishes
tries_level : (t level : ℕ) (ss : List Slot) → All (λ (s : Slot). s.size ≡ level) ss → tries_in t ss ≤ capped_in t level ss
tries_level t level ss same = sum_le (λ s. min (if_in t s.part) s.size) (λ s. min (if_in t s.part) level) ss
    (All-weaker (λ s. s.size ≡ level) (λ s. min (if_in t s.part) s.size ≤ min (if_in t s.part) level)
    (λ s is. omega (arith, is)) ss same)

-- if all try their wishes, they try all that they wish
wish_of : (t : ℕ) (p : Part) → if_in t p ≤ p.wanted
wish_of t p = grind (arith, nat_tests)

pub tries_wishes : (t : ℕ) (ss : List Slot) → All TriesItsWish ss → wanted_in t ss ≤ tries_in t ss
tries_wishes t ss wish = sum_le (λ s. if_in t s.part) (λ s. min (if_in t s.part) s.size) ss
    (All-weaker TriesItsWish (λ s. if_in t s.part ≤ min (if_in t s.part) s.size)
    (λ s is. omega (arith, is, wish_of t s.part)) ss wish)

pub tries_own : (t : ℕ) (s : Slot) → TriesItsWish s → if_in t s.part ≤ s.size
tries_own t s wish = omega (arith, wish, wish_of t s.part)

-- one more that comes first
come_push : (t room : ℕ) (ss : List Slot) (s : Slot) → ComeFirst t room ss
    → (IsOfTurn t s.part → s.size ≡ min s.part.wanted (room - wanted_in t ss)) → ComeFirst t room (ss ++ s ∷ [])
come_push t room [] s done own = (λ is. omega (arith, own is), tt)
come_push t room (r ∷ rs) s done own = (
  done.0,
  come_push t (room - if_in t r.part) rs s done.1
      (λ is. omega (arith, own is, sum_by-cons (λ (q : Slot). if_in t q.part) r rs)),
)

pub ComeFirst-written : (t room : ℕ) (ss : List Slot) (i : ℕ) (s : Slot) → i < length ss → ComeFirst t room (take i ss)
    → (IsOfTurn t s.part → s.size ≡ min s.part.wanted (room - wanted_in t (take i ss)))
    → ComeFirst t room (take (i + 1) (set ss i s))
ComeFirst-written t room ss i s within done own =
    let P : List Slot → Type 0 = λ rs. ComeFirst t room rs in
    subst P (sym (take_more_set ss i s within)) (come_push t room (take i ss) s done own)

-- sizes of the first turn, where all tried the same
pub levelled_share : (t left : ℕ) (first old new : List Slot) → t ≡ 0 → slot_parts new ≡ slot_parts first
    → total_of new ≡ wanted_before t new + left
    → ((level : ℕ) × All (λ (s : Slot). s.size ≡ level) old × (capped_in 0 level first ≤ left)
    × (left < capped_in 0 (level + 1) first))
    → slot_parts old ≡ slot_parts first → (tries_in t old ≤ left → HaveTried t old new) → IsLevelled new
levelled_share t left first old new is parts all level same tried =
    let P : ℕ → Type 0 = λ n. tries_in n old ≤ left → HaveTried n old new in
    let Q : ℕ → Type 0 = λ n. total_of new ≡ wanted_before n new + left in
    let n = level.0 in
    let few = same_sum (λ p. min (if_in 0 p) n) old first same in
    let have = subst P is tried (omega (arith, level.2, few, tries_level 0 n old level.1)) in (
      n,
      AllZip-all (λ (s : Slot). s.size ≡ n) (λ (o m : Slot). HasAtLeast 0 o.size m.part m.size)
          (λ (m : Slot). HasAtLeast 0 n m.part m.size) (λ o m is least. omega (arith, is, least)) old new level.1 have,
      omega (arith, level.3, subst Q is all, before-first new, same_sum (λ p. min (if_in 0 p) (n + 1)) new first parts),
    )

-- who tries no more than it wishes has what it tried
tried_share : (t : ℕ) (old new : List Slot) → AllZip IsAtMost (sizes_of old) (wishes_of t new) → HaveTried t old new
    → AllZip IsAtMost (sizes_of old) (sizes_of new)
tried_share t [] [] few tried = tt
tried_share t (o ∷ os) (n ∷ ns) few tried = (omega (arith, few.0, tried.0), tried_share t os ns few.1 tried.1)
tried_share t _ _ few tried = absurd tried

-- sizes of parts that tried the least ragged shares
pub ragged_share : (t left : ℕ) (old new : List Slot) → slot_parts new ≡ slot_parts old
    → (end : Run) × IsLeastRagged (wishes_of t old) (heights_of t old) left (sizes_of old) end
    → (tries_in t old ≤ left → HaveTried t old new) → DifferLeast t left new
ragged_share t left old new parts ragged tried =
    let P : List ℕ → Type 0 = λ ws. IsLeastRagged ws (heights_of t old) left (sizes_of old) ragged.0 in
    let Q : List ℕ → Type 0 = λ xs. IsLeastRagged (wishes_of t new) xs left (sizes_of old) ragged.0 in
    let least = subst Q (sym (same_map (if_before t) new old parts))
    (subst P (sym (same_map (if_in t) new old parts)) ragged.1) in (
      sizes_of old,
      ragged.0,
      least,
      tried_share t old new least.within
          (tried (omega (arith, tries_within t old, least.fits, sum-map (λ (s : Slot). s.size) old))),
    )
