-- What the spaces take, and what they leave for the parts.
use Rattle.std.proofs.Common.{ℕ, ◌≡◌, ◌≤◌, ◌<◌, ◌+◌, ◌-◌, ◌*◌, ◌/◌, ◌%◌, ◌^◌, List, [], ◌∷◌, length, false, min, refl, sym, ◌∙◌}
use Rattle.std.proofs.Common.{ap, subst, inl, inr, add-mul, mul-le-mul_right, arith}
use Rattle.std.proofs.Math.Nat.{mul_comm, mul_assoc, div-add-mod, mod-lt}
use Rattle.std.proofs.lemmas.{Bool.cases_lt, Bool.Decides.nat_tests, List.length-map, List.Sums.sum-map, List.Elements.All-nil}
use Rattle.std.proofs.lemmas.{List.Elements.All-cons}
use Rattle.rtui_layout.specs.declared.flex.Flex.TheVariants.{Legacy, Start, End, Center, SpaceBetween, SpaceAround, SpaceEvenly}
use Rattle.rtui_layout.specs.declared.flex.Flex.{Flex}
use Rattle.rtui_split.specs.Spaces.{IsPacked, KeepsWishes, least_spaces, IsFlexed}
use Rattle.rtui_split.specs.Inner.Slots.{AllSlots, sizes_of, total_of, if_before, wanted_before}
use Rattle.rtui_split.specs.Inner.Shares.{IsGranted, IsDenied, IsShared, DifferLeast}
use Rattle.rtui_split.specs.Inner.Spaces.{least_gaps, FitsBefore, left_in, IsFlexedIn, GivesWishes, IsArranged, IsSpread, lead}
use Rattle.rtui_split.specs.Inner.Spaces.{first_share, middle_share}
use Rattle.rtui_split.specs.declared.{flex.Spaces.Spaces, flex.Room.Room, part.Part.Part, slot.Slot.Slot}
use Rattle.rtui_split.proofs.{ShareLemmas.before-later, ShareLemmas.one_granted, ShareLemmas.granted_le, Lists.each_within}
use Rattle.rtui_split.proofs.{Lists.sum-plus, SlotLemmas.AllSlots-weaker}

-- a number that is not at most another
pub not_le : (a b : ℕ) → (a ≤ b → ⊥) → b < a
not_le a b misses = elim (cases_lt b a) [ inl less ↦ less | inr more ↦ absurd (misses more) ]

one_denied : (t : ℕ) (p : Part) (n : ℕ) → n ≤ if_before t p + 0 → IsDenied t p n
one_denied t p n few = (grind (arith, nat_tests), λ from. grind (arith, nat_tests))

-- sizes of at least the wishes before a turn, and together no more
denied_all : (t : ℕ) (ss : List Slot) → AllSlots (IsGranted t) ss → total_of ss ≤ wanted_before t ss → AllSlots (IsDenied t) ss
denied_all t ss all few = AllSlots-weaker (λ p n. n ≤ if_before t p + 0) (IsDenied t) (one_denied t) ss
    (each_within (λ s. s.size) (λ s. if_before t s.part) 0 ss
    (AllSlots-weaker (IsGranted t) (λ p n. if_before t p ≤ n) (one_granted t) ss all) (omega (arith, few)))

-- where the wishes of a first kind alone are not passed, the room for the parts is what is wished before a turn
first_only : (ss : List Slot) (t for_parts least whole : ℕ) → (wanted_before t ss + least ≤ whole → ⊥)
    → wanted_before 0 ss + least ≤ whole
    → (wanted_before 1 ss < for_parts → for_parts + least ≤ whole) → wanted_before t ss ≤ for_parts
    → for_parts ≤ wanted_before t ss
first_only ss t for_parts least whole misses spaced spare many = elim (cases_lt (wanted_before 1 ss) for_parts) [
  | inl more ↦ absurd (misses (omega (arith, spare more)))
  | inr few ↦ elim (cases_lt 0 t) [
    | inl later ↦ omega (arith, before-later 1 t ss (omega arith))
    | inr first ↦ absurd (misses (omega (arith, before-later t 0 ss first)))
  ]
]

-- one space less than parts, and one space more
pub one_more : (n gap : ℕ) → n * gap ≤ (n - 1) * gap + gap
one_more n gap = grind (arith, mul-le-mul_right gap (within n), add-mul (n - 1) 1 gap)
  where
    within : (k : ℕ) → k ≤ k - 1 + 1
    within k = omega arith

-- sizes with the wishes that fit, and spaces, in a room
pub given_in : (ss : List Slot) (room : Room) (spaces : Spaces)
    → ((t : ℕ) → t ≤ 5 → FitsBefore t ss room → AllSlots (IsGranted t) ss)
    → ((t : ℕ) → FitsBefore t ss room → spaces.first + total_of ss + length ss * spaces.middle ≤ room.whole + spaces.middle)
    → GivesWishes ss room spaces
given_in ss room spaces granted fits = record {
  granted = granted;
  fit = λ t enough. omega (
    arith,
    fits t enough,
    sum-plus (λ (n : ℕ). n) spaces.middle (sizes_of ss),
    sum-map (λ (s : Slot). s.size) ss,
    ap (λ n. n * spaces.middle) (length-map ss (λ (s : Slot). s.size)),
  );
}

-- a part alone that takes the room
pub alone_given : (ss : List Slot) (room : Room) (spaces : Spaces) → length ss ≤ 1
    → (length ss ≡ 1 → sizes_of ss ≡ room.whole ∷ []) → spaces.first ≡ 0 → spaces.middle ≡ 0 → GivesWishes ss room spaces
alone_given [] room spaces few all first middle = record {
  granted = λ t last enough. All-nil (λ (s : Slot). IsGranted t s.part s.size);
  fit = λ t enough. omega arith;
}
alone_given (s ∷ []) room spaces few all first middle =
    let whole = all (omega arith) in
    let size : s.size ≡ room.whole = cc (whole) in
    record {
      granted = λ t last enough. let P : Slot → Type 0 = λ r. IsGranted t r.part r.size in
          All-cons P s [] (λ own. grind (arith, nat_tests, enough, own, size)) (All-nil P);
      fit = λ t enough. omega (arith, first, middle, size);
    }
alone_given (s ∷ r ∷ rs) room spaces few all first middle = absurd (omega (arith, few))

-- what is shared in a room that has room for what fits is arranged
pub arranged : (ss : List Slot) (room : Room) (left for_parts : ℕ) (spaces : Spaces) → IsShared false ss for_parts left
    → for_parts ≤ room.whole
    → ((t : ℕ) → FitsBefore t ss room → wanted_before t ss ≤ for_parts)
    → ((t : ℕ) → FitsBefore t ss room → room.whole ≤ for_parts + least_gaps room ss)
    → (FitsBefore 0 ss room → wanted_before 1 ss < for_parts → for_parts + least_gaps room ss ≤ room.whole)
    → (0 < length ss → room.whole < 2 ^ 43 → FitsBefore 0 ss room → IsFlexedIn ss room spaces)
    → IsArranged ss room spaces
arranged ss room left for_parts spaces shared within fits beside spare flexed =
    let least = least_gaps room ss in
    let missed : (t : ℕ) → (FitsBefore t ss room → ⊥) → room.whole < wanted_before t ss + least =
    λ t misses. not_le (wanted_before t ss + least) room.whole misses in
    let spaced_at : (t : ℕ) → FitsBefore t ss room → FitsBefore 0 ss room =
    λ t enough. omega (arith, enough, before-later 0 t ss (omega arith)) in
    record {
      at_most = shared.at_most;
      short = λ t last spaced misses. elim (cases_lt for_parts (wanted_before t ss)) [
        | inl few ↦ omega (arith, shared.short t last few, beside 0 spaced)
        | inr many ↦ omega (arith, granted_le t ss (shared.granted t last many), missed t misses)
      ];
      later = λ t last spaced misses. elim (cases_lt for_parts (wanted_before t ss)) [
        | inl few ↦ shared.later t last few
        | inr many ↦
            let most = first_only ss t for_parts least room.whole misses spaced (spare spaced) many in
            denied_all t ss (shared.granted t last many) (omega (arith, shared.total, most))
      ];
      flexed = flexed;
      filled = λ small enough.
          let filled = shared.filled (omega arith) (fits 5 enough) in
          let all : total_of ss + least ≤ room.whole = elim (cases_lt (wanted_before 1 ss) for_parts) [
            | inl more ↦ omega (arith, shared.total, spare (spaced_at 5 enough) more)
            | inr few ↦ omega (arith, shared.total, enough, before-later 1 5 ss (omega arith))
          ] in
          (filled.0, filled.1, filled.2, λ some. omega (arith, filled.3 some, beside 5 enough), all);
      levelled = shared.levelled refl;
      ragged = λ t some last enough misses.
          let whole : for_parts + least ≡ room.whole = elim (cases_lt (wanted_before 1 ss) for_parts) [
            | inl more ↦ omega (arith, beside t enough, spare (spaced_at t enough) more)
            | inr few ↦ omega (arith, beside t enough, enough, few, before-later 1 t ss (omega (arith, some)))
          ] in
          let P : ℕ → Type 0 = λ n. DifferLeast t n ss in
          let left : for_parts - wanted_before t ss ≡ left_in t ss room = omega (arith, whole) in
          subst P left (shared.ragged refl t some last (omega (arith, enough, whole))
          (omega (arith, missed (t + 1) misses, whole)));
    }

pub packed_least : (flex : Flex) (n : ℕ) → IsPacked flex → least_spaces flex n ≡ n - 1
packed_least SpaceAround n packed = absurd packed
packed_least SpaceEvenly n packed = absurd packed
packed_least _ n packed = refl

-- the room that spaces of their size leave
pub packed_room : (flex : Flex) (n gap inner whole for_parts wished : ℕ) → IsPacked flex → inner ≡ n - 1
    → for_parts ≡ whole - min (gap * inner) (2 ^ 64 - 1) → whole < 2 ^ 64 → wished + least_spaces flex n * gap ≤ whole
    → (for_parts + least_spaces flex n * gap ≡ whole) × (for_parts + (n - 1) * gap ≡ whole)
packed_room flex n gap inner whole for_parts wished packed inner_is rest small fits =
    let least : least_spaces flex n * gap ≡ (n - 1) * gap = ap (λ k. k * gap) (packed_least flex n packed) in
    let spaces : gap * inner ≡ (n - 1) * gap = mul_comm gap inner ∙ ap (λ k. k * gap) inner_is in
    (omega (arith, least, spaces, rest, fits), omega (arith, least, spaces, rest, fits))

-- the room after so many spaces before all parts, and so many after the first wishes
pub spread_room : (whole gap a b n least more for_parts wished : ℕ) → a + b ≡ n → least ≤ gap * a → more ≤ gap * b
    → whole ≤ for_parts + more + least → wished + n * gap ≤ whole → wished ≤ for_parts
spread_room whole gap a b n least more for_parts wished parts few later enough fits =
    omega (arith, few, later, enough, fits, ap (λ k. k * gap) parts, add-mul a b gap, mul_comm gap a, mul_comm gap b)

-- the spaces take no more than their least
pub spread_beside : (whole gap a b n least more for_parts : ℕ) → a + b ≡ n → least ≤ gap * a → more ≤ gap * b
    → whole ≤ for_parts + more + least → whole ≤ for_parts + n * gap
spread_beside whole gap a b n least more for_parts parts few later enough =
    omega (arith, few, later, enough, ap (λ k. k * gap) parts, add-mul a b gap, mul_comm gap a, mul_comm gap b)

pub lead_le : (flex : Flex) (left : ℕ) → lead flex left ≤ left
lead_le End left = omega arith
lead_le Center left = omega arith
lead_le _ left = omega arith

-- where the rest goes, if the spaces between two have their size
pub packed_flexed : (flex : Flex) (none : Type 0) (n gap sizes left whole : ℕ) → IsPacked flex
    → sizes + left + (n - 1) * gap ≤ whole → (none → sizes + left + (n - 1) * gap ≡ whole)
    → (last : ℕ) × (lead flex left + sizes + (n - 1) * gap + last ≡ whole)
    × IsFlexed flex none n gap (lead flex left) gap last
packed_flexed Legacy none n gap sizes left whole packed fits all =
    (whole - (sizes + (n - 1) * gap), omega arith, tt)
packed_flexed Start none n gap sizes left whole packed fits all =
    (whole - (sizes + (n - 1) * gap), omega arith, (refl, refl))
packed_flexed End none n gap sizes left whole packed fits all =
    (whole - (left + sizes + (n - 1) * gap), omega arith, (refl, λ nobody. omega (arith, all nobody)))
packed_flexed Center none n gap sizes left whole packed fits all = (
  whole - (left / 2 + sizes + (n - 1) * gap),
  omega arith,
  (refl, λ nobody. (omega (arith, all nobody), omega (arith, all nobody))),
)
packed_flexed _ none n gap sizes left whole packed fits all = absurd packed

-- so many times a size, and once more
times_more : (n k : ℕ) → 0 < n → (n - 1) * k + k ≡ n * k
times_more n k some =
    let whole : n - 1 + 1 ≡ n = omega arith in
    omega (arith, add-mul (n - 1) 1 k, ap (λ m. m * k) whole)

-- where the rest goes, if the spaces share it
shares_rest : (flex : Flex) (none : Type 0) (n gap rest : ℕ) → IsSpread flex → KeepsWishes flex n → 0 < n
    → (last : ℕ) × (first_share flex n rest + (n - 1) * middle_share flex n rest + last ≡ rest)
    × IsFlexed flex none n gap (first_share flex n rest) (middle_share flex n rest) last
shares_rest SpaceBetween none n gap rest spread keeps some =
    let inner : 0 < n - 1 = omega arith in
    (rest % (n - 1), omega (arith, div-add-mod rest (n - 1)), (refl, mod-lt rest inner))
shares_rest SpaceAround none n gap rest spread keeps some =
    let twice : 0 < 2 * n = omega arith in
    let e = rest / (2 * n) in
    let r = rest % (2 * n) in
    let less : r < 2 * n = mod-lt rest twice in (
      e + r,
      omega (
        arith,
        div-add-mod rest (2 * n),
        times_more n (2 * e) some,
        mul_assoc 2 n e,
        mul_assoc n 2 e,
        ap (λ m. m * e) (mul_comm n 2),
      ),
      (refl, omega arith, omega arith),
    )
shares_rest SpaceEvenly none n gap rest spread keeps some =
    let more : 0 < n + 1 = omega arith in
    let e = rest / (n + 1) in
    let r = rest % (n + 1) in
    let less : r < n + 1 = mod-lt rest more in (
      e + r,
      omega (arith, div-add-mod rest (n + 1), times_more n e some, add-mul n 1 e),
      (refl, omega arith, omega arith),
    )
shares_rest _ none n gap rest spread keeps some = absurd spread

pub spread_flexed : (flex : Flex) (none : Type 0) (n gap sizes rest whole first middle : ℕ) → IsSpread flex
    → KeepsWishes flex n → 0 < n → sizes + rest ≡ whole → first ≡ first_share flex n rest
    → middle ≡ middle_share flex n rest
    → (last : ℕ) × (first + sizes + (n - 1) * middle + last ≡ whole) × IsFlexed flex none n gap first middle last
spread_flexed flex none n gap sizes rest whole first middle spread keeps some all first_is middle_is =
    let shares = shares_rest flex none n gap rest spread keeps some in
    let P : ℕ → Type 0 = λ m. IsFlexed flex none n gap (first_share flex n rest) m shares.0 in
    let Q : ℕ → Type 0 = λ f. IsFlexed flex none n gap f middle shares.0 in (
      shares.0,
      omega (arith, shares.1, first_is, ap (λ m. (n - 1) * m) middle_is),
      subst Q (sym first_is) (subst P (sym middle_is) shares.2),
    )

-- the least spaces before all parts and those after the first wishes
pub spread_spaced : (gap a b n : ℕ) → a + b ≡ n → gap * a + gap * b ≡ n * gap
spread_spaced gap a b n parts =
    omega (arith, ap (λ k. k * gap) parts, add-mul a b gap, mul_comm gap a, mul_comm gap b)
