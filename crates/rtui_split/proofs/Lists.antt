-- Relations between two lists, element by element.
use Rattle.std.specs.List.{AllZip}
use Rattle.std.proofs.Common.{ℕ, ◌≡◌, ◌<◌, ◌+◌, ◌*◌, List, [], ◌∷◌, ◌++◌, All, take, drop, add-one, arith, get_or, map, length}
use Rattle.std.proofs.Common.{sum_by, ◌≤◌, sym, ◌∙◌, ap, ap₂, refl, subst, sum}
use Rattle.std.proofs.lemmas.List.Elements.{All-push, All-nil, All-cons, All-head, All-tail}
use Rattle.std.proofs.{Math.ListN.set, Math.ListN.length-set, lemmas.List.take_more, lemmas.List.take_more_set}
use Rattle.std.proofs.{lemmas.List.take_all, Math.Seq.drop-cons, lemmas.List.Sums.sum_by_push, lemmas.List.Sums.sum_by-cons}
use Rattle.std.proofs.{lemmas.List.Sums.sum-map, lemmas.Slice.Zip.all_zipped_more}

-- one element more, written at its place
pub AllZip-written : {A B : Type 0} (R : A → B → Type 0) (xs : List A) (ys : List B) (i : ℕ) (d : A) (y : B)
    → i < length xs → i < length ys → AllZip R (take i xs) (take i ys) → R (get_or xs i d) y
    → AllZip R (take (i + 1) xs) (take (i + 1) (set ys i y))
AllZip-written {A} {B} R xs ys i d y in_xs in_ys done here =
    let P : List A → Type 0 = λ zs. AllZip R zs (take (i + 1) (set ys i y)) in
    let Q : List B → Type 0 = λ zs. AllZip R (take i xs ++ get_or xs i d ∷ []) zs in
    subst P (sym (take_more xs i d in_xs)) (subst Q (sym (take_more_set ys i y in_ys))
    (all_zipped_more R (take i xs) (take i ys) (get_or xs i d) y done here))

pub All-written : {A : Type 0} (P : A → Type 0) (xs : List A) (i : ℕ) (x : A) → i < length xs → All P (take i xs) → P x
    → All P (take (i + 1) (set xs i x))
All-written {A} P xs i x in_xs done here =
    let Q : List A → Type 0 = λ ys. All P ys in
    subst Q (sym (take_more_set xs i x in_xs)) (All-push P (take i xs) x done here)

-- one more of a sum, written at its place
pub sum-written : {A : Type 0} (f : A → ℕ) (ys : List A) (i : ℕ) (y : A) → i < length ys
    → sum_by f (take (i + 1) (set ys i y)) ≡ sum_by f (take i ys) + f y
sum-written f ys i y in_ys = ap (sum_by f) (take_more_set ys i y in_ys) ∙ sum_by_push f (take i ys) y

pub AllZip-weaker : {A B : Type 0} (R S : A → B → Type 0) → ((x : A) (y : B) → R x y → S x y) → (xs : List A) (ys : List B)
    → AllZip R xs ys → AllZip S xs ys
AllZip-weaker R S weaker [] [] all = tt
AllZip-weaker R S weaker (x ∷ xs) (y ∷ ys) all = (weaker x y all.0, AllZip-weaker R S weaker xs ys all.1)
AllZip-weaker R S weaker _ _ all = absurd all

-- what holds of the second list, if it holds of the first
pub AllZip-all : {A B : Type 0} (P : A → Type 0) (R : A → B → Type 0) (Q : B → Type 0) → ((x : A) (y : B) → P x → R x y → Q y)
    → (xs : List A) (ys : List B) → All P xs → AllZip R xs ys → All Q ys
AllZip-all P R Q holds [] [] each all = All-nil Q
AllZip-all P R Q holds (x ∷ xs) (y ∷ ys) each all = All-cons Q y ys (holds x y (All-head P x xs each) all.0)
    (AllZip-all P R Q holds xs ys (All-tail P x xs each) all.1)
AllZip-all P R Q holds _ _ each all = absurd all

-- a relation to a third list by way of the second
pub AllZip-chain : {A B C : Type 0} (R : A → B → Type 0) (S : B → C → Type 0) (T : A → C → Type 0)
    → ((x : A) (y : B) (z : C) → R x y → S y z → T x z) → (xs : List A) (ys : List B) (zs : List C) → AllZip R xs ys
    → AllZip S ys zs → AllZip T xs zs
AllZip-chain R S T joins [] [] [] one two = tt
AllZip-chain R S T joins [] (y ∷ ys) zs one two = absurd one
AllZip-chain R S T joins (x ∷ xs) [] zs one two = absurd one
AllZip-chain R S T joins (x ∷ xs) (y ∷ ys) (z ∷ zs) one two =
    (joins x y z one.0 two.0, AllZip-chain R S T joins xs ys zs one.1 two.1)
AllZip-chain R S T joins _ _ _ one two = absurd two

-- two relations, and a relation with what holds of the second list
pub AllZip-both : {A B : Type 0} (R S : A → B → Type 0) (xs : List A) (ys : List B) → AllZip R xs ys → AllZip S xs ys
    → AllZip (λ x y. R x y × S x y) xs ys
AllZip-both R S [] [] one two = tt
AllZip-both R S (x ∷ xs) (y ∷ ys) one two = ((one.0, two.0), AllZip-both R S xs ys one.1 two.1)
AllZip-both R S _ _ one two = absurd one

pub AllZip-and : {A B : Type 0} (R : A → B → Type 0) (P : B → Type 0) (xs : List A) (ys : List B) → AllZip R xs ys → All P ys
    → AllZip (λ x y. R x y × P y) xs ys
AllZip-and R P [] [] all each = tt
AllZip-and R P (x ∷ xs) (y ∷ ys) all each = ((all.0, All-head P y ys each), AllZip-and R P xs ys all.1 (All-tail P y ys each))
AllZip-and R P _ _ all each = absurd all

-- a list of what a function makes of each element
pub AllZip-is : {A B : Type 0} (f : A → B) (xs : List A) (ys : List B) → AllZip (λ x y. y ≡ f x) xs ys → ys ≡ map f xs
AllZip-is f [] [] same = refl
AllZip-is f (x ∷ xs) (y ∷ ys) same = ap₂ (λ z zs. z ∷ zs) same.0 (AllZip-is f xs ys same.1)
AllZip-is f _ _ same = absurd same

-- a map of a map, and its sum
pub map-map : {A B C : Type 0} (f : B → C) (g : A → B) (xs : List A) → map f (map g xs) ≡ map (λ x. f (g x)) xs
map-map f g [] = refl
map-map f g (x ∷ xs) = ap (λ ys. f (g x) ∷ ys) (map-map f g xs)

pub sum_by-map : {A B : Type 0} (f : B → ℕ) (g : A → B) (xs : List A) → sum_by f (map g xs) ≡ sum_by (λ x. f (g x)) xs
sum_by-map f g xs = sym (sum-map f (map g xs)) ∙ ap sum (map-map f g xs) ∙ sum-map (λ x. f (g x)) xs

-- sums that are no more, or the same, one by one
pub sum_le : {A : Type 0} (f g : A → ℕ) (xs : List A) → All (λ x. f x ≤ g x) xs → sum_by f xs ≤ sum_by g xs
sum_le f g [] few = omega arith
sum_le {A} f g (x ∷ xs) few =
    let P : A → Type 0 = λ y. f y ≤ g y in
    omega (arith, All-head P x xs few, sum_le f g xs (All-tail P x xs few), sum_by-cons f x xs, sum_by-cons g x xs)

pub sum_is : {A : Type 0} (f g : A → ℕ) (xs : List A) → All (λ x. f x ≡ g x) xs → sum_by f xs ≡ sum_by g xs
sum_is f g [] same = refl
sum_is {A} f g (x ∷ xs) same =
    let P : A → Type 0 = λ y. f y ≡ g y in
    omega (arith, All-head P x xs same, sum_is f g xs (All-tail P x xs same), sum_by-cons f x xs, sum_by-cons g x xs)

-- what is no less one by one, and together no more but for so much, is no more but for so much one by one
pub each_within : {A : Type 0} (f g : A → ℕ) (k : ℕ) (xs : List A) → All (λ x. g x ≤ f x) xs
    → sum_by f xs ≤ sum_by g xs + k → All (λ x. f x ≤ g x + k) xs
each_within f g k [] more few = All-nil (λ x. f x ≤ g x + k)
each_within {A} f g k (x ∷ xs) more few =
    let P : A → Type 0 = λ y. g y ≤ f y in
    let own = All-head P x xs more in
    let rest = All-tail P x xs more in
    let heads : sum_by f (x ∷ xs) ≡ f x + sum_by f xs = sum_by-cons f x xs in
    let others : sum_by g (x ∷ xs) ≡ g x + sum_by g xs = sum_by-cons g x xs in
    All-cons (λ y. f y ≤ g y + k) x xs (omega (arith, few, heads, others, sum_le g f xs rest))
    (each_within f g k xs rest (omega (arith, few, heads, others, own)))

-- so much more for each
pub sum-plus : {A : Type 0} (f : A → ℕ) (m : ℕ) (xs : List A) → sum_by (λ x. f x + m) xs ≡ sum_by f xs + length xs * m
sum-plus f m [] = omega arith
sum-plus f m (x ∷ xs) = grind (arith, sum-plus f m xs, sum_by-cons (λ y. f y + m) x xs, sum_by-cons f x xs)

-- a list from a place on
pub drop_cons : {A : Type 0} (xs : List A) (i : ℕ) (d : A) → i < length xs → drop i xs ≡ get_or xs i d ∷ drop (i + 1) xs
drop_cons xs i d within = rw add-one (drop-cons xs i d within)

-- lists that are the same from a place on
pub rest_same : {A : Type 0} (xs ys : List A) (i : ℕ) (d : A) → i < length xs → i < length ys → drop i xs ≡ drop i ys
    → (get_or xs i d ≡ get_or ys i d) × (drop (i + 1) xs ≡ drop (i + 1) ys)
rest_same xs ys i d in_xs in_ys same =
    let one = drop_cons xs i d in_xs in
    let two = drop_cons ys i d in_ys in
    (cc (one, two), cc (one, two))

-- a list whose last element is written
pub set_last : {A : Type 0} (xs : List A) (n : ℕ) (x : A) → length xs ≡ n + 1 → set xs n x ≡ take n xs ++ x ∷ []
set_last {A} xs n x long =
    sym (take_all (n + 1) (set xs n x) (omega (arith, length-set {A = A} xs n x))) ∙ take_more_set xs n x (omega arith)

-- the last element, written
pub All-closed : {A : Type 0} (P : A → Type 0) (xs : List A) (n : ℕ) (x : A) → length xs ≡ n + 1 → All P (take n xs) → P x
    → All P (set xs n x)
All-closed {A} P xs n x long done here =
    let Q : List A → Type 0 = λ ys. All P ys in
    subst Q (sym (set_last xs n x long)) (All-push P (take n xs) x done here)

-- a list of one element
pub one_long : {A : Type 0} (xs : List A) (d : A) → length xs ≡ 1 → xs ≡ get_or xs 0 d ∷ []
one_long [] d long = absurd (omega arith)
one_long (x ∷ []) d long = refl
one_long (x ∷ y ∷ ys) d long = absurd (omega arith)
