-- Values that a test calls equal, one by one.
use Rattle.std.proofs.Common.{◌≡◌, ℕ, ◌+◌, ◌<◌, Bool, true, List, [], ◌∷◌, ◌++◌, take, length, Option, Some, None, refl, sym, ◌∙◌}
use Rattle.std.proofs.Math.ListN.{get_or}
use Rattle.std.proofs.lemmas.List.{take_more}
use Rattle.std.specs.{Cmp.IsEquivalence, Cmp.first_so, Cmp.second_so, Cmp.Derive.both_true, Option.option_eq}
use Rattle.std.specs.Cmp.Lexicographic.{pointwise, lists_equiv}
use Rattle.widget_boxes.specs.declared.block.Block.{Block}
use Rattle.widget_boxes.specs.contracts.block.BlockPartialEq.TheImpl.{eq-value}
use Rattle.widget_boxes.specs.contracts.block.BlockEq.TheImpl.Laws.{laws-law}

pairs-then : {A : Type 0} (E : A → A → Bool) (xs ys : List A) (x y : A) → pointwise E xs ys ≡ true → E x y ≡ true
    → pointwise E (xs ++ x ∷ []) (ys ++ y ∷ []) ≡ true
pairs-then E [] [] x y h same = both_true same refl
pairs-then E [] (b ∷ ys) x y h same = absurd (cc)
pairs-then E (a ∷ xs) [] x y h same = absurd (cc)
pairs-then E (a ∷ xs) (b ∷ ys) x y h same =
    both_true (first_so (E a b) (pointwise E xs ys) h) (pairs-then E xs ys x y (second_so (E a b) (pointwise E xs ys) h) same)

-- one more pair that is equal
pub pairs-next : {A : Type 0} (E : A → A → Bool) (xs ys : List A) (k : ℕ) (x y : A) → k < length xs → x ≡ get_or xs k x
    → E x y ≡ true → pointwise E (take k xs) ys ≡ true → pointwise E (take (k + 1) xs) (ys ++ y ∷ []) ≡ true
pairs-next E xs ys k x y lt is same so_far =
    rw (take_more xs k x lt, ← is) (pairs-then E (take k xs) ys x y so_far same)

-- an equal value, if there is one, is as the value itself to a test
pub if-same : {A : Type 0} {E : A → A → Bool} → IsEquivalence E → (o p : Option A) → option_eq E o p ≡ true
    → option_eq E o p ≡ option_eq E o o
if-same laws None p h = h
if-same laws (Some x) p h = h ∙ sym (laws.refl x)

-- and so are equal values
pub all-same : {A : Type 0} {E : A → A → Bool} → IsEquivalence E → (xs ys : List A) → pointwise E xs ys ≡ true
    → pointwise E xs ys ≡ pointwise E xs xs
all-same laws xs ys h = h ∙ sym ((lists_equiv laws).refl xs)

-- so is an equal box
pub block-same : (o p : Option Block) → option_eq eq-value.it o p ≡ true → option_eq eq-value.it o p ≡ option_eq eq-value.it o o
block-same = if-same laws-law
