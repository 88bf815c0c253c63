-- Sums of wishes, turn by turn, and what sizes keep to.
use Rattle.std.proofs.Common.{ℕ, ◌≡◌, ◌<◌, ◌≤◌, ◌+◌, ◌-◌, ◌*◌, ◌^◌, ◌==◌, ◌/◌, List, [], ◌∷◌, Bool, true, false, max}
use Rattle.std.proofs.Common.{if◌then◌else◌, refl, subst, arith}
use Rattle.std.proofs.lemmas.{Bool.Decides.nat_tests, List.Sums.sum_by-cons, List.Sums.sum_by-le-sum_by, List.Elements.All-weaker}
use Rattle.rtui_layout.specs.declared.constraint.Constraint.{Constraint, TheVariants.Min, TheVariants.Fill}
use Rattle.rtui_split.specs.Wishes.{turn, level_size, TakesNothing, TakesNothingIn}
use Rattle.rtui_split.specs.Inner.Slots.{AllSlots, total_of, if_before, if_in, wanted_before, wanted_in, sized, HasSizeAt}
use Rattle.rtui_split.specs.Inner.Slots.{filled_at, TakeNothing, TakeNothingIn, weights}
use Rattle.rtui_split.specs.Inner.Shares.{KeepsToTurn, IsGranted, IsModest, IsDenied, IsShared, IsLevelled, ComeFirst}
use Rattle.rtui_split.specs.Inner.Shares.{DifferLeast}
use Rattle.rtui_split.specs.{declared.part.Part.Part, declared.slot.Slot.Slot, declared.level.Takers.Takers, Units.unit_levels}
use Rattle.rtui_split.proofs.{Lists.sum_le, Lists.sum_is, SlotLemmas.AllSlots-weaker, LevelLemmas.flat_size, LevelLemmas.fill_le}

one_before_next : (t : ℕ) (p : Part) → if_before (t + 1) p ≡ if_before t p + if_in t p
one_before_next t p = grind (arith, nat_tests)

-- those before the next turn are those before this one, and those of this one
pub before-next : (t : ℕ) (ss : List Slot) → wanted_before (t + 1) ss ≡ wanted_before t ss + wanted_in t ss
before-next t [] = refl
before-next t (s ∷ ss) = simp sum_by-cons (omega (arith, one_before_next t s.part, before-next t ss))

one_before_first : (p : Part) → if_before 0 p ≡ 0
one_before_first p = grind (arith, nat_tests)

-- nobody comes before the first turn
pub before-first : (ss : List Slot) → wanted_before 0 ss ≡ 0
before-first [] = refl
before-first (s ∷ ss) = simp sum_by-cons (omega (arith, one_before_first s.part, before-first ss))

one_before_later : (t u : ℕ) → t ≤ u → (p : Part) → if_before t p ≤ if_before u p
one_before_later t u later p = grind (arith, nat_tests)

pub before-later : (t u : ℕ) (ss : List Slot) → t ≤ u → wanted_before t ss ≤ wanted_before u ss
before-later t u ss later = sum_by-le-sum_by (λ s. if_before t s.part) (λ s. if_before u s.part) ss
    (λ s. one_before_later t u later s.part)

-- a number is at most another if it can't come after it
not_after : (u t : ℕ) → (t + 1 ≤ u → ⊥) → u ≤ t
not_after u t not_later = grind (arith, nat_tests, not_later)

zero_of : (t : ℕ) → (1 ≤ t → ⊥) → t ≡ 0
zero_of t not_later = grind (arith, nat_tests, not_later)

between : (t u : ℕ) → (t + 1 ≤ u → ⊥) → (u + 1 ≤ t → ⊥) → t ≡ u
between t u not_later not_before = grind (arith, nat_tests, not_later, not_before)

-- what is left after all turns
pub all_left : (ss : List Slot) (room t left : ℕ) → t ≡ 5 → left + wanted_before t ss ≡ room → left + wanted_before 5 ss ≡ room
all_left ss room t left last whole = let P : ℕ → Type 0 = λ u. left + wanted_before u ss ≡ room in subst P last whole

-- sizes of at least the wishes before a turn
pub one_granted : (t : ℕ) (p : Part) (n : ℕ) → IsGranted t p n → if_before t p ≤ n
one_granted t p n granted = grind (arith, nat_tests, granted)

pub granted_le : (t : ℕ) (ss : List Slot) → AllSlots (IsGranted t) ss → wanted_before t ss ≤ total_of ss
granted_le t ss all = sum_le (λ s. if_before t s.part) (λ s. s.size) ss
    (AllSlots-weaker (IsGranted t) (λ p n. if_before t p ≤ n) (one_granted t) ss all)

-- parts that take nothing of what is left take nothing with `Flex::Legacy` either
modest_in : (legacy : Bool) (c : Constraint) → TakesNothing c → TakesNothingIn legacy c
modest_in legacy (Min n) modest = cc
modest_in legacy (Fill n) modest = absurd modest
modest_in legacy _ modest = tt

pub all_modest_in : (legacy : Bool) (ss : List Slot) → TakeNothing ss → TakeNothingIn legacy ss
all_modest_in legacy ss modest = All-weaker (λ (s : Slot). TakesNothing s.part.constraint)
    (λ (s : Slot). TakesNothingIn legacy s.part.constraint)
    (λ s nothing. modest_in legacy s.part.constraint nothing) ss modest

-- sizes that keep to a turn that comes too short are shared
pub short_share : (legacy : Bool) (ss : List Slot) (room t : ℕ) → t < 5 → AllSlots (KeepsToTurn t) ss → total_of ss ≡ room
    → wanted_before t ss ≤ room → room < wanted_before (t + 1) ss
    → (legacy ≡ false → t ≡ 0 → IsLevelled ss)
    → (legacy ≡ true → ComeFirst t (room - wanted_before t ss) ss)
    → (legacy ≡ false → 0 < t → DifferLeast t (room - wanted_before t ss) ss)
    → IsShared legacy ss room 0
short_share legacy ss room t short each all fits misses levelled come ragged =
    let this : (u : ℕ) → wanted_before u ss ≤ room → room < wanted_before (u + 1) ss → t ≡ u = λ u enough missing. between t u
    (λ later. omega (arith, misses, enough, before-later (t + 1) u ss later))
    (λ later. omega (arith, missing, fits, before-later (u + 1) t ss later)) in
    record {
      total = omega arith;
      granted = λ u last enough.
          let within : u ≤ t = not_after u t (λ later. absurd (omega (arith, misses, before-later (t + 1) u ss later))) in
          AllSlots-weaker (KeepsToTurn t) (IsGranted u) (λ p n keeps first. omega (arith, keeps.before (omega arith))) ss each;
      at_most = AllSlots-weaker (KeepsToTurn t) IsModest (λ p n keeps modest. keeps.at_most) ss each;
      short = λ u last missing. all;
      later = λ u last missing.
          let after : t + 1 ≤ u = not_after (t + 1) u
          (λ later. absurd (omega (arith, missing, fits, before-later u t ss (omega arith)))) in
          AllSlots-weaker (KeepsToTurn t) (IsDenied u) (λ p n keeps. (keeps.at_most, λ from. keeps.later (omega arith))) ss each;
      rest = λ small modest. omega arith;
      filled = λ small enough. absurd (omega (arith, misses, before-later (t + 1) 5 ss (omega arith)));
      spent = λ _ enough _. refl;
      levelled = λ level few. levelled level (zero_of t (λ later. omega (arith, few, fits, before-later 1 t ss later)));
      first_come = λ legacy u last enough missing.
          let P : ℕ → Type 0 = λ n. ComeFirst n (room - wanted_before n ss) ss in
          subst P (this u enough missing) (come legacy);
      ragged = λ other u some last enough missing.
          let same = this u enough missing in
          let P : ℕ → Type 0 = λ n. DifferLeast n (room - wanted_before n ss) ss in
          subst P same (ragged other (omega (arith, same, some)));
    }

-- a size at a level is a wish, or more if the part takes something of what is left
if_more : (b : Bool) (x y : ℕ) → x ≤ y → x ≤ (if b then x else y)
if_more true x y more = omega arith
if_more false x y more = more

granted_at : (takers : Takers) (level wanted : ℕ) (c : Constraint) → turn c < 5
    → wanted ≤ level_size takers.legacy takers.even level wanted c
granted_at takers level wanted (Min n) first = if_more takers.legacy wanted (max wanted (level / unit_levels)) (omega arith)
granted_at takers level wanted (Fill n) first = absurd (omega arith)
granted_at takers level wanted _ first = omega arith

-- sizes at a level are shared, if all wishes fit and the sizes do
pub filled_share : (takers : Takers) (ss : List Slot) (room level over : ℕ) → AllSlots (HasSizeAt takers level) ss
    → wanted_before 5 ss ≤ room → filled_at takers level ss ≤ room → over ≤ room - total_of ss
    → (room < 2 ^ 43 → TakeNothingIn takers.legacy ss → over ≡ room - total_of ss)
    → takers.even ≡ (weights takers.legacy ss == 0)
    → (room < 2 ^ 43 → level < (room + 1) * unit_levels → room < filled_at takers (level + unit_levels) ss)
    → (room < 2 ^ 43 → level < (room + 1) * unit_levels → over ≡ 0)
    → IsShared takers.legacy ss room over
filled_share takers ss room level over sizes fits within rest all even most none =
    let same : total_of ss ≡ filled_at takers level ss = sum_is (λ s. s.size) (λ s. sized takers level s.part) ss sizes in
    let granted : (u : ℕ) → u ≤ 5 → AllSlots (IsGranted u) ss = λ u last. AllSlots-weaker (HasSizeAt takers level) (IsGranted u)
    (λ p n is first. omega (arith, is, granted_at takers level p.wanted p.constraint (omega arith))) ss sizes in
    let low : (TakeNothingIn takers.legacy ss → ⊥) → level < (room + 1) * unit_levels =
    λ some. omega (arith, fill_le takers level ss even some, within) in
    record {
      total = omega (arith, same, within, rest);
      granted = λ u last _. granted u last;
      at_most = AllSlots-weaker (HasSizeAt takers level) IsModest (λ p n is modest.
          omega (arith, is, flat_size takers level p.wanted p.constraint (modest_in takers.legacy p.constraint modest))) ss sizes;
      short = λ u last misses. absurd (omega (arith, before-later u 5 ss last));
      later = λ u last misses. absurd (omega (arith, before-later u 5 ss last));
      rest = λ small modest. omega (arith, all small modest, within, same);
      filled = λ small _. (takers.even, level, record { each = sizes; weighed = even }, λ some. most small (low some));
      spent = λ small _ some. none small (low some);
      levelled = λ _ few. absurd (omega (arith, few, granted_le 1 ss (granted 1 (omega arith))));
      first_come = λ _ u last enough missing. absurd (omega (arith, missing, fits, before-later (u + 1) 5 ss (omega arith)));
      ragged = λ _ u _ last enough missing. absurd (omega (arith, missing, fits, before-later (u + 1) 5 ss (omega arith)));
    }
