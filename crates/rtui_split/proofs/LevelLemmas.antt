-- Sizes at levels.
use Rattle.std.proofs.Common.{ℕ, ◌≡◌, ◌≤◌, ◌<◌, ◌*◌, ◌/◌, ◌==◌, ◌⊎◌, Bool, true, false, max, if◌then◌else◌, IsTrue, List, [], ◌∷◌}
use Rattle.std.proofs.Common.{inl, inr, refl, sym, ◌∙◌, arith, mul-le-mul_left, mul-le-mul_right}
use Rattle.std.proofs.lemmas.List.Elements.{All-head, All-tail, All-nil, All-cons}
use Rattle.std.proofs.lemmas.{Bool.cases_lt, Bool.Decides.nat_tests, List.Sums.sum_by-cons, List.Sums.sum_by-le-sum_by}
use Rattle.rtui_layout.specs.declared.constraint.Constraint.{Constraint, TheVariants.Min, TheVariants.Fill}
use Rattle.rtui_split.specs.Wishes.{weight_in, level_size, TakesNothingIn}
use Rattle.rtui_split.specs.Inner.Slots.{if_before, wanted_before, sized, filled_at, TakeNothingIn, weights}
use Rattle.rtui_split.specs.{declared.slot.Slot.Slot, declared.level.Takers.Takers, Units.unit_levels}

-- the share of a `Fill` at a level
abbrev pub fill_share : Bool → ℕ → ℕ → ℕ
fill_share even level n = (if even then max n 1 else n) * level / unit_levels

-- a share at a higher level is no smaller
pub share_later : (even : Bool) (l m n : ℕ) → l ≤ m → fill_share even l n ≤ fill_share even m n
share_later even l m n later =
    let k = if even then max n 1 else n in
    let more : k * l ≤ k * m = mul-le-mul_left k later in
    omega (arith, more)

if_later : (b : Bool) (x y z : ℕ) → y ≤ z → (if b then x else y) ≤ (if b then x else z)
if_later true x y z later = omega arith
if_later false x y z later = later

pub size_later : (takers : Takers) (l m wanted : ℕ) (c : Constraint) → l ≤ m
    → level_size takers.legacy takers.even l wanted c ≤ level_size takers.legacy takers.even m wanted c
size_later takers l m wanted (Min n) later =
    if_later takers.legacy wanted (max wanted (l / unit_levels)) (max wanted (m / unit_levels)) (omega arith)
size_later takers l m wanted (Fill n) later = share_later takers.even l m n later
size_later takers l m wanted _ later = omega arith

pub sizes_later : (takers : Takers) (l m : ℕ) (ss : List Slot) → l ≤ m → filled_at takers l ss ≤ filled_at takers m ss
sizes_later takers l m ss later = sum_by-le-sum_by (λ s. sized takers l s.part) (λ s. sized takers m s.part) ss
    (λ s. size_later takers l m s.part.wanted s.part.constraint later)

-- a part that takes nothing of what is left has its wish at each level
if_flat : (b : Bool) (x y : ℕ) → IsTrue b → (if b then x else y) ≡ x
if_flat true x y flat = refl
if_flat false x y flat = grind (arith, flat)

pub flat_size : (takers : Takers) (level wanted : ℕ) (c : Constraint) → TakesNothingIn takers.legacy c
    → level_size takers.legacy takers.even level wanted c ≡ wanted
flat_size takers level wanted (Min n) modest = if_flat takers.legacy wanted (max wanted (level / unit_levels)) modest
flat_size takers level wanted (Fill n) modest = absurd modest
flat_size takers level wanted _ modest = refl

pub flat_sizes : (takers : Takers) (l m : ℕ) (ss : List Slot) → TakeNothingIn takers.legacy ss
    → filled_at takers l ss ≡ filled_at takers m ss
flat_sizes takers l m [] modest = refl
flat_sizes takers l m (s ∷ ss) modest =
    let P : Slot → Type 0 = λ r. TakesNothingIn takers.legacy r.part.constraint in
    let own : P s = All-head P s ss modest in
    simp sum_by-cons (omega (
      arith,
      flat_size takers l s.part.wanted s.part.constraint own,
      flat_size takers m s.part.wanted s.part.constraint own,
      flat_sizes takers l m ss (All-tail P s ss modest),
    ))

-- at level 0 nobody has more than it wishes
if_both : (b : Bool) (x y : ℕ) → y ≤ x → (if b then x else y) ≤ x
if_both true x y few = omega arith
if_both false x y few = few

size_at_first : (takers : Takers) (wanted : ℕ) (c : Constraint)
    → level_size takers.legacy takers.even 0 wanted c ≤ if_before 5 (record { constraint = c; wanted = wanted })
size_at_first takers wanted (Min n) = if_both takers.legacy wanted (max wanted (0 / unit_levels)) (omega arith)
size_at_first takers wanted _ = omega arith

pub sizes_at_first : (takers : Takers) (ss : List Slot) → filled_at takers 0 ss ≤ wanted_before 5 ss
sizes_at_first takers ss = sum_by-le-sum_by (λ s. sized takers 0 s.part) (λ s. if_before 5 s.part) ss
    (λ s. size_at_first takers s.part.wanted s.part.constraint)

-- a weight above 0 takes at least the level
one_weight : (k level : ℕ) → 0 < k → level / unit_levels ≤ k * level / unit_levels
one_weight k level some = let more : 1 * level ≤ k * level = mul-le-mul_right level some in omega (arith, more)

-- so does a `Fill` that weighs something, or counts as if it did
fill_own : (even : Bool) (n level : ℕ) → (even ≡ false → 0 < n) → level / unit_levels ≤ fill_share even level n
fill_own true n level some = one_weight (max n 1) level (omega arith)
fill_own false n level some = one_weight n level (some refl)

min_own : (legacy : Bool) (level wanted : ℕ) → 0 < (if legacy then 0 else 1)
    → level / unit_levels ≤ (if legacy then wanted else max wanted (level / unit_levels))
min_own true level wanted some = absurd (omega (arith, some))
min_own false level wanted some = omega arith

weight_own : (takers : Takers) (level wanted : ℕ) (c : Constraint) → 0 < weight_in takers.legacy c
    → level / unit_levels ≤ level_size takers.legacy takers.even level wanted c
weight_own takers level wanted (Min n) some = min_own takers.legacy level wanted some
weight_own takers level wanted (Fill n) some = fill_own takers.even n level (λ odd. some)
weight_own takers level wanted _ some = absurd (omega (arith, some))

weights_own : (takers : Takers) (level : ℕ) (ss : List Slot) → 0 < weights takers.legacy ss
    → level / unit_levels ≤ filled_at takers level ss
weights_own takers level [] some = absurd (omega (arith, some))
weights_own takers level (s ∷ ss) some =
    let heads = sum_by-cons (λ (r : Slot). sized takers level r.part) s ss in
    let weighs = sum_by-cons (λ (r : Slot). weight_in takers.legacy r.part.constraint) s ss in
    elim (cases_lt 0 (weight_in takers.legacy s.part.constraint)) [
      | inl own ↦ omega (arith, heads, weight_own takers level s.part.wanted s.part.constraint own)
      | inr none ↦ omega (arith, heads, weights_own takers level ss (omega (arith, some, none, weighs)))
    ]

-- where all count as even, a part has at least the level, or takes nothing
min_or_none : (legacy : Bool) (level wanted : ℕ)
    → (level / unit_levels ≤ (if legacy then wanted else max wanted (level / unit_levels))) ⊎ IsTrue legacy
min_or_none true level wanted = inr refl
min_or_none false level wanted = inl (omega arith)

own_or_none : (takers : Takers) (level wanted : ℕ) (c : Constraint) → takers.even ≡ true
    → (level / unit_levels ≤ level_size takers.legacy takers.even level wanted c) ⊎ TakesNothingIn takers.legacy c
own_or_none takers level wanted (Min n) even = min_or_none takers.legacy level wanted
own_or_none takers level wanted (Fill n) even =
    inl (fill_own takers.even n level (λ odd. absurd (let no : false ≡ true = sym odd ∙ even in cc)))
own_or_none takers level wanted _ even = inr tt

fills_own : (takers : Takers) (level : ℕ) (ss : List Slot) → takers.even ≡ true → (TakeNothingIn takers.legacy ss → ⊥)
    → level / unit_levels ≤ filled_at takers level ss
fills_own takers level [] even some = absurd (some (All-nil (λ (r : Slot). TakesNothingIn takers.legacy r.part.constraint)))
fills_own takers level (s ∷ ss) even some =
    let P : Slot → Type 0 = λ r. TakesNothingIn takers.legacy r.part.constraint in
    let heads = sum_by-cons (λ (r : Slot). sized takers level r.part) s ss in
    elim (own_or_none takers level s.part.wanted s.part.constraint even) [
      | inl own ↦ omega (arith, own, heads)
      | inr none ↦ omega (arith, heads, fills_own takers level ss even (λ rest. some (All-cons P s ss none rest)))
    ]

-- if some part takes what is left, all sizes together are at least the level
pub fill_le : (takers : Takers) (level : ℕ) (ss : List Slot) → takers.even ≡ (weights takers.legacy ss == 0)
    → (TakeNothingIn takers.legacy ss → ⊥) → level / unit_levels ≤ filled_at takers level ss
fill_le takers level ss same some = elim (cases_lt 0 (weights takers.legacy ss)) [
  | inl more ↦ weights_own takers level ss more
  | inr none ↦ fills_own takers level ss (grind (arith, nat_tests, same, none)) some
]
