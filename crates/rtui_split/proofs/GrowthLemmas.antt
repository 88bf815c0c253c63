-- What a column or row more makes of exact sizes.
use Rattle.std.specs.List.{AllZip}
use Rattle.std.proofs.Common.{ℕ, ◌≡◌, ◌<◌, ◌≤◌, ◌+◌, ◌*◌, ◌/◌, ◌-◌, ◌^◌, ◌⊎◌, inl, inr, max, Bool, false, if◌then◌else◌, List, []}
use Rattle.std.proofs.Common.{◌∷◌, All, sum_by, slice_index_or, sym, ◌∙◌, ap, subst, add-mul, mul-le-mul_left, arith}
use Rattle.std.proofs.Math.Nat.{mul_assoc, mul_comm, div-mul-le_self, lt-div-mul-add, div-lt_iff_lt-mul, le_of_mul-le-mul_left}
use Rattle.std.proofs.lemmas.{Bool.cases_lt, Nat.le-div, List.Sums.sum_by-cons, List.Elements.All-nil, List.Elements.All-cons}
use Rattle.std.proofs.lemmas.{List.Elements.All-weaker}
use Rattle.rtui_geometry.specs.declared.rect.Rect.{Rect}
use Rattle.rtui_layout.specs.declared.constraint.Constraint.TheVariants.{Min, Percentage, Ratio, Fill}
use Rattle.rtui_layout.specs.{Layout.LayoutData, declared.constraint.Constraint.Constraint}
use Rattle.rtui_layout.specs.{declared.direction.Direction.Direction, declared.direction.Direction.TheVariants.Horizontal}
use Rattle.rtui_layout.specs.{declared.direction.Direction.TheVariants.Vertical}
use Rattle.rtui_split.specs.Wishes.{wish, wish_before, wished_before, TakesNothing}
use Rattle.rtui_split.specs.Split.{cells_of, size_at, least_units, HasTaker, NoneTakes, IsCutAt, SharesRest}
use Rattle.rtui_split.specs.Growth.{one_ratio, ratios, IsNoSmaller, HasGrown}
use Rattle.rtui_split.specs.Units.{cell_units, unit_levels}
use Rattle.rtui_split.proofs.{Lists.each_within, LevelLemmas.size_later, LevelLemmas.flat_size}

-- a quotient of a sum
div_sum : (a b d : ℕ) → 0 < d → (a + b) / d ≤ a / d + b / d + 1
div_sum a b d some =
    let q = a / d + b / d in
    let more : a + b < (q + 2) * d = omega (
      arith,
      lt-div-mul-add {a = a} {b = d} some,
      lt-div-mul-add {a = b} {b = d} some,
      add-mul q 2 d,
      add-mul (a / d) (b / d) d,
    ) in
    let less : (a + b) / d < q + 2 = (div-lt_iff_lt-mul some).1 more in
    omega arith

-- a product of a quotient
mul_div : (k x d : ℕ) → 0 < d → k * (x / d) ≤ k * x / d
mul_div k x d some =
    let within : k * (x / d * d) ≤ k * x = mul-le-mul_left k (div-mul-le_self x d) in
    le-div (k * (x / d)) (k * x) d some (omega (arith, within, mul_assoc k (x / d) d))

-- what one column or row more adds to a wish at most, but for a unit of each ratio
abbrev per_cell : Constraint → ℕ
per_cell (Percentage n) = n * (cell_units / 100)
per_cell (Ratio m n) = wish 1 (Ratio m n)
per_cell _ = 0

ratio_next : (cells m n : ℕ) → wish (cells + 1) (Ratio m n) ≤ wish cells (Ratio m n) + wish 1 (Ratio m n) + 1
ratio_next cells m n =
    let d = max n 1 in
    let parts : (cells + 1) * m * cell_units ≡ cells * m * cell_units + 1 * m * cell_units =
    omega (arith, add-mul cells 1 m) in
    let whole : (cells + 1) * m * cell_units / d ≡ (cells * m * cell_units + 1 * m * cell_units) / d = ap (λ x. x / d) parts in
    omega (arith, whole, div_sum (cells * m * cell_units) (1 * m * cell_units) d (omega arith))

-- sizes of one column or row more, at the same level
size_next : (cells : ℕ) (even : Bool) (level : ℕ) (c : Constraint)
    → size_at (cells + 1) even level c ≤ size_at cells even level c + per_cell c + one_ratio c
size_next cells even level (Percentage n) = omega (arith, add-mul cells 1 n)
size_next cells even level (Ratio m n) = omega (arith, ratio_next cells m n)
size_next cells even level _ = omega arith

sizes_next : (cells : ℕ) (even : Bool) (level : ℕ) (cs : List Constraint)
    → sum_by (size_at (cells + 1) even level) cs ≤ sum_by (size_at cells even level) cs + sum_by per_cell cs + ratios cs
sizes_next cells even level [] = omega arith
sizes_next cells even level (c ∷ cs) =
    simp sum_by-cons (omega (arith, size_next cells even level c, sizes_next cells even level cs))

-- what wishes grow by with each column or row is within them, where they fit
ratio_within_wish : (cells m n : ℕ) → wish cells (Ratio m n) < 2 ^ 64 - 1 → cells * wish 1 (Ratio m n) ≤ wish cells (Ratio m n)
ratio_within_wish cells m n fits =
    let d = max n 1 in
    let x = 1 * m * cell_units in
    let one : cells * wish 1 (Ratio m n) ≤ cells * (x / d) = mul-le-mul_left cells (omega arith) in
    let same : cells * x ≡ cells * m * cell_units =
    omega (arith, mul_assoc cells m cell_units, mul_assoc cells (1 * m) cell_units) in
    let share : cells * x / d ≡ cells * m * cell_units / d = ap (λ y. y / d) same in
    omega (arith, one, mul_div cells x d (omega arith), share, fits)

within_wish : (cells : ℕ) (c : Constraint) → wish_before 5 cells c < 2 ^ 64 - 1 → cells * per_cell c ≤ wish_before 5 cells c
within_wish cells (Percentage n) fits = omega (arith, mul_assoc cells n (cell_units / 100))
within_wish cells (Ratio m n) fits = ratio_within_wish cells m n fits
within_wish cells _ fits = omega arith

within_wishes : (cells : ℕ) (cs : List Constraint) → wished_before 5 cells cs < 2 ^ 64 - 1
    → cells * sum_by per_cell cs ≤ wished_before 5 cells cs
within_wishes cells [] fits = omega arith
within_wishes cells (c ∷ cs) fits =
    let heads : wished_before 5 cells (c ∷ cs) ≡ wish_before 5 cells c + wished_before 5 cells cs =
    sum_by-cons (wish_before 5 cells) c cs in
    let parts : cells * sum_by per_cell (c ∷ cs) ≡ cells * per_cell c + cells * sum_by per_cell cs =
    ap (λ x. cells * x) (sum_by-cons per_cell c cs) ∙ mul_sum cells (per_cell c) (sum_by per_cell cs) in
    omega (
      arith,
      parts,
      heads,
      within_wish cells c (omega (arith, fits, heads)),
      within_wishes cells cs
          (omega (arith, fits, heads)),
    )
  where
    mul_sum : (k a b : ℕ) → k * (a + b) ≡ k * a + k * b
    mul_sum k a b = omega (arith, mul_comm k (a + b), mul_comm k a, mul_comm k b, add-mul a b k)

-- where wishes fit in so many cells, they grow by no more than the area
per_cell_within : (cells : ℕ) (cs : List Constraint) → cells + 1 ≤ 65535
    → wished_before 5 (cells + 1) cs ≤ (cells + 1) * cell_units
    → sum_by per_cell cs ≤ cell_units
per_cell_within cells cs small fits =
    let each : (cells + 1) * sum_by per_cell cs ≤ (cells + 1) * cell_units =
    omega (arith, fits, within_wishes (cells + 1) cs (omega (arith, fits))) in
    le_of_mul-le-mul_left each (omega arith)

-- at a higher level no size is smaller
size_higher : (cells : ℕ) (even : Bool) (l m : ℕ) → l ≤ m → (c : Constraint) → size_at cells even l c ≤ size_at cells even m c
size_higher cells even l m later c = size_later (record { legacy = false; even = even }) l m (wish cells c) c later

pub share_unit : (k l : ℕ) → k * (l + unit_levels) / unit_levels ≤ k * l / unit_levels + k
share_unit k l = omega (arith, mul_comm k (l + unit_levels), add-mul l unit_levels k, mul_comm l k, mul_comm unit_levels k)

ratio_more : (cells m n : ℕ) → wish cells (Ratio m n) ≤ wish (cells + 1) (Ratio m n)
ratio_more cells m n =
    let d = max n 1 in
    let q = cells * m * cell_units / d in
    let more : q ≤ (cells + 1) * m * cell_units / d = le-div q ((cells + 1) * m * cell_units) d (omega arith)
    (omega (arith, div-mul-le_self (cells * m * cell_units) d, add-mul cells 1 m)) in
    omega (arith, more)

-- a size is no smaller with a column or row more, if it isn't at a level of a unit more
no_smaller : (cells : ℕ) (even : Bool) (level next rs : ℕ) (c : Constraint)
    → size_at cells even level c ≤ size_at cells even (next + unit_levels) c + rs → IsNoSmaller cells even level next rs c
no_smaller cells even level next rs (Percentage n) few = omega (arith, add-mul cells 1 n)
no_smaller cells even level next rs (Ratio m n) few = omega (arith, ratio_more cells m n)
no_smaller cells even level next rs (Fill n) few = omega (arith, few, share_unit (if even then max n 1 else n) next)
no_smaller cells even level next rs _ few = omega (arith, few)

-- one part more that takes nothing of what is left
more_or_none : (c : Constraint) → TakesNothing c → (cs : List Constraint) → HasTaker cs ⊎ NoneTakes cs
    → HasTaker cs ⊎ NoneTakes (c ∷ cs)
more_or_none c modest cs (inl some) = inl some
more_or_none c modest cs (inr none) = inr (All-cons TakesNothing c cs modest none)

-- some part takes what is left, or none
taker_or_none : (cs : List Constraint) → HasTaker cs ⊎ NoneTakes cs
taker_or_none [] = inr (All-nil TakesNothing)
taker_or_none (Min n ∷ cs) = inl tt
taker_or_none (Fill n ∷ cs) = inl tt
taker_or_none (c ∷ cs) = more_or_none c tt cs (taker_or_none cs)

-- who takes nothing of what is left has its wish at each level
flat_no_smaller : (cells : ℕ) (even : Bool) (level next rs : ℕ) (c : Constraint) → TakesNothing c
    → IsNoSmaller cells even level next rs c
flat_no_smaller cells even level next rs c modest =
    let flat = λ (l : ℕ). flat_size (record { legacy = false; even = even }) l (wish cells c) c modest in
    no_smaller cells even level next rs c (omega (arith, flat level, flat (next + unit_levels)))

-- sizes that fit are no larger than those of a column or row more at a level that has no room for a unit more
each_no_smaller : (cells : ℕ) (even : Bool) (level next least : ℕ) (cs : List Constraint) → cells + 1 ≤ 65535
    → wished_before 5 (cells + 1) cs ≤ (cells + 1) * cell_units
    → sum_by (size_at cells even level) cs + least ≤ cells * cell_units
    → (HasTaker cs → (cells + 1) * cell_units < sum_by (size_at (cells + 1) even (next + unit_levels)) cs + least)
    → All (IsNoSmaller cells even level next (ratios cs)) cs
each_no_smaller cells even level next least cs small wishes fits most = elim (taker_or_none cs) [
  | inr none ↦ All-weaker TakesNothing (IsNoSmaller cells even level next (ratios cs))
      (flat_no_smaller cells even level next (ratios cs)) cs none
  | inl some ↦
      let below = λ (c : Constraint). size_at cells even level c ≤ size_at cells even (next + unit_levels) c + ratios cs in
      let all : All below cs = elim (cases_lt (next + unit_levels) level) [
        | inl higher ↦ each_within (size_at cells even level) (size_at cells even (next + unit_levels)) (ratios cs) cs
            (λ i d within. size_higher cells even (next + unit_levels) level (omega arith) _)
            (omega (
              arith,
              fits,
              most some,
              sizes_next cells even (next + unit_levels) cs,
              per_cell_within cells cs small wishes,
            ))
        | inr lower ↦ λ i d within. omega (arith, size_higher cells even level (next + unit_levels) lower (slice_index_or cs i d))
      ] in
      All-weaker below (IsNoSmaller cells even level next (ratios cs)) (no_smaller cells even level next (ratios cs)) cs all
]

-- no area is longer than the grid
pub cells_small : (d : Direction) (area : Rect) → cells_of d area ≤ 65535
cells_small Horizontal area = omega arith
cells_small Vertical area = omega arith

-- one column or row more
pub grown : (l : LayoutData) (cells : ℕ) (parts more : List Rect) → cells + 1 ≤ 65535
    → wished_before 5 (cells + 1) l.constraints ≤ (cells + 1) * cell_units
    → SharesRest l cells parts → SharesRest l (cells + 1) more → HasGrown l cells parts more
grown l cells parts more small wishes first last =
    let cs = l.constraints in
    let least = least_units l in
    let same : last.0 ≡ first.0 = last.3.1 ∙ sym first.3.1 in
    let P : Bool → Type 0 = λ b. AllZip (IsCutAt (cells + 1) b last.1 l.direction) cs more in
    let Q : Bool → Type 0 = λ b. HasTaker cs
    → (cells + 1) * cell_units < sum_by (size_at (cells + 1) b (last.1 + unit_levels)) cs + least in (
      first.0,
      first.1,
      last.1,
      first.2,
      subst P same last.2,
      each_no_smaller cells first.0 first.1 last.1 least cs small wishes first.3.2 (subst Q same last.3.0),
    )
