-- What parts have together that have no more than so much each.
use Rattle.std.proofs.Common.{ℕ, ◌≡◌, ◌≤◌, min, List, [], ◌∷◌, refl, arith}
use Rattle.std.proofs.lemmas.List.Sums.{sum_by-cons, sum_by-le-sum_by}
use Rattle.rtui_split.specs.{declared.slot.Slot.Slot, Inner.Slots.if_in, Inner.Slots.wanted_in, Inner.Slots.capped_in}

pub capped_later : (t a b : ℕ) (ss : List Slot) → a ≤ b → capped_in t a ss ≤ capped_in t b ss
capped_later t a b ss later =
    sum_by-le-sum_by (λ s. min (if_in t s.part) a) (λ s. min (if_in t s.part) b) ss (λ s. omega arith)

pub capped_first : (t : ℕ) (ss : List Slot) → capped_in t 0 ss ≡ 0
capped_first t [] = refl
capped_first t (s ∷ ss) = simp sum_by-cons (omega (arith, capped_first t ss))

-- they have so much, if they wish it
pub capped_enough : (t n : ℕ) (ss : List Slot) → min (wanted_in t ss) n ≤ capped_in t n ss
capped_enough t n [] = omega arith
capped_enough t n (s ∷ ss) = simp sum_by-cons (omega (arith, capped_enough t n ss))
