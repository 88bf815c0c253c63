-- What `Flex::Legacy` makes of what is shared.
use Rattle.std.proofs.Common.{ℕ, ◌≡◌, ◌<◌, ◌≤◌, ◌+◌, ◌-◌, ◌*◌, Bool, true, List, [], ◌∷◌, map, length, sum, get_or, refl, sym}
use Rattle.std.proofs.Common.{◌∙◌, ap, ap₂, subst, arith}
use Rattle.std.proofs.lemmas.List.{length-map, Elements.All-head, Elements.All-tail, Sums.sum_by-set, Sums.sum-map}
use Rattle.rtui_split.specs.Inner.Slots.{AllSlots, slot_parts, sizes_of, total_of, if_before, wanted_before, HasSizeAt}
use Rattle.rtui_split.specs.Inner.Slots.{TakeNothingIn}
use Rattle.rtui_split.specs.Inner.Shares.{IsDenied, IsShared, ComeFirst, AreSized, next_filled, IsStretched, IsGranted}
use Rattle.rtui_split.specs.Inner.Spaces.{least_gaps, FitsBefore, left_in, IsLegacy, GivesWishes}
use Rattle.rtui_split.specs.{declared.flex.Room.Room, declared.part.Part.Part, declared.slot.Slot.Slot}
use Rattle.rtui_split.specs.{declared.level.Takers.Takers, Wishes.TakesNothingIn}
use Rattle.rtui_split.proofs.SlotLemmas.{same_map, same_sum, same_all, same_length}
use Rattle.rtui_split.proofs.{FlexLemmas.not_le, FlexLemmas.given_in, FlexLemmas.one_more, ShareLemmas.before-later}
use Rattle.rtui_split.proofs.{LevelLemmas.flat_size}

-- where a part is stretched, too, each has its wish whose wishes fit
pub stretched_given : (legacy : Bool) (old new : List Slot) (room : Room) (left for_parts : ℕ)
    → IsShared legacy old for_parts left → slot_parts new ≡ slot_parts old → ((t : ℕ) → AllSlots (IsGranted t) old → AllSlots (IsGranted t) new)
    → total_of new ≤ total_of old + left
    → ((t : ℕ) → FitsBefore t new room → for_parts + (length new - 1) * room.gap ≡ room.whole)
    → ((t : ℕ) → FitsBefore t new room → wanted_before t new ≤ for_parts)
    → GivesWishes new room (record { first = 0; middle = room.gap })
stretched_given legacy old new room left for_parts is_shared parts more all whole fits =
    given_in new room (record { first = 0; middle = room.gap })
    (λ t last enough. more t (is_shared.granted t last (omega (arith, fits t enough, same_sum (if_before t) new old parts))))
    (λ t enough. omega (arith, whole t enough, all, is_shared.total, one_more (length new) room.gap))

-- so much more
stretched_sum : (old new : List Slot) (left : ℕ) → slot_parts new ≡ slot_parts old → IsStretched (sizes_of old) new left
    → total_of new ≡ total_of old + left
stretched_sum old new left parts s =
    let within : s.0 < length (sizes_of old) = omega (
      arith,
      s.1.within,
      length-map new (λ (r : Slot). r.part.constraint),
      length-map old (λ (r : Slot). r.size),
      same_length new old parts,
    ) in
    omega (
      arith,
      ap sum s.2,
      sum_by-set (λ n. n) (sizes_of old) s.0 (get_or (sizes_of old) s.0 0 + left) 0 within,
      sum-map (λ (r : Slot). r.size) old,
      sum-map (λ (r : Slot). r.size) new,
    )

-- parts that take nothing of what is left have their wishes at each level
wishes_at : (takers : Takers) (level : ℕ) (ss : List Slot) → AllSlots (HasSizeAt takers level) ss
    → TakeNothingIn takers.legacy ss → sizes_of ss ≡ map (λ (s : Slot). s.part.wanted) ss
wishes_at takers level [] sizes modest = refl
wishes_at takers level (s ∷ ss) sizes modest =
    let P : Slot → Type 0 = λ r. HasSizeAt takers level r.part r.size in
    let Q : Slot → Type 0 = λ r. TakesNothingIn takers.legacy r.part.constraint in
    ap₂ (λ n ns. n ∷ ns)
    (All-head P s ss sizes ∙ flat_size takers level s.part.wanted s.part.constraint (All-head Q s ss modest))
    (wishes_at takers level ss (All-tail P s ss sizes) (All-tail Q s ss modest))

pub legacy_arranged : (old new : List Slot) (room : Room) (left for_parts : ℕ) → IsShared true old for_parts left
    → slot_parts new ≡ slot_parts old → (left ≡ 0 → new ≡ old) → total_of new ≤ total_of old + left
    → (0 < length new → IsStretched (sizes_of old) new left)
    → for_parts ≤ room.whole
    → ((t : ℕ) → FitsBefore t new room → for_parts + least_gaps room new ≡ room.whole)
    → IsLegacy new room (record { first = 0; middle = room.gap })
legacy_arranged old new room left for_parts is_shared parts same all stretched most whole =
    let before : (t : ℕ) → wanted_before t new ≡ wanted_before t old = λ t. same_sum (if_before t) new old parts in
    let modest : TakeNothingIn true new → TakeNothingIn true old =
    same_all (λ (p : Part). TakesNothingIn true p.constraint) new old parts in
    let back : TakeNothingIn true old → TakeNothingIn true new =
    same_all (λ (p : Part). TakesNothingIn true p.constraint) old new (sym parts) in
    let over : (t : ℕ) → FitsBefore 0 new room → (FitsBefore t new room → ⊥) → for_parts < wanted_before t old =
    λ t spaced misses. omega (
      arith,
      whole 0 spaced,
      before t,
      not_le (wanted_before t new + least_gaps room new) room.whole misses,
    ) in
    let none : (t : ℕ) → t ≤ 5 → for_parts < wanted_before t old → new ≡ old =
    λ t last misses. same (omega (arith, is_shared.total, is_shared.short t last misses)) in
    let spaced_at : (t : ℕ) → FitsBefore t new room → FitsBefore 0 new room =
    λ t fits. omega (arith, fits, before-later 0 t new (omega arith)) in
    let all_fit : FitsBefore 5 new room → wanted_before 5 old ≤ for_parts =
    λ fits. omega (arith, whole 5 fits, fits, before 5) in
    record {
      gaps = (refl, refl);
      within = λ spaced. omega (arith, all, is_shared.total, whole 0 spaced);
      first_come = λ t few fits misses.
          let missing : for_parts < wanted_before (t + 1) old = over (t + 1) (spaced_at t fits) misses in
          let P : List Slot → Type 0 = λ ss. ComeFirst t (left_in t new room) ss in
          let Q : ℕ → Type 0 = λ n. ComeFirst t n old in
          subst P (sym (none (t + 1) (omega arith) missing))
          (subst Q (omega (arith, whole t fits, fits, before t))
          (is_shared.first_come refl t few (omega (arith, whole t fits, fits, before t)) missing));
      later = λ t last spaced misses.
          let missing : for_parts < wanted_before t old = over t spaced misses in
          let P : List Slot → Type 0 = λ ss. AllSlots (IsDenied t) ss in
          subst P (sym (none t last missing)) (is_shared.later t last missing);
      stretched = λ some small fits nobody.
          let filled = is_shared.filled (omega arith) (all_fit fits) in
          let R : List ℕ → Type 0 = λ ns. IsStretched ns new left in
          let wishes = wishes_at (record { legacy = true; even = filled.0 }) filled.1 old filled.2.each (modest nobody)
          ∙ sym (same_map (λ (p : Part). p.wanted) new old parts) in (
            left,
            subst R wishes (stretched some),
            omega (
              arith,
              stretched_sum old new left parts (stretched some),
              is_shared.rest (omega arith) (modest nobody),
              whole 5 fits,
            ),
          );
      filled = λ small fits some.
          let filled = is_shared.filled (omega arith) (all_fit fits) in
          let somebody : TakeNothingIn true old → ⊥ = λ nobody. some (back nobody) in
          let is : new ≡ old = same (is_shared.spent (omega arith) (all_fit fits) somebody) in
          let P : List Slot → Type 0 = λ ss. AreSized true filled.0 filled.1 ss in
          let Q : List Slot → Type 0 = λ ss. for_parts < next_filled true filled.0 filled.1 ss in
          let fuller : Q new = subst Q (sym is) (filled.3 somebody) in
          (filled.0, filled.1, subst P (sym is) filled.2, omega (arith, fuller, whole 5 fits));
    }
