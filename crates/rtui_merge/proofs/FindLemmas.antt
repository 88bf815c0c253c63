-- A search by a key in a list whose keys all have one shape.
use Rattle.std.proofs.Common.{◌≡◌, List, [], ◌∷◌, Option, None, Some, refl, ap, ◌∙◌, sym, Bool, true, false, inl, inr}
use Rattle.std.specs.{List.list_all, List.find, Option.option_map}
use Rattle.std.proofs.lemmas.Bool.{and_parts, false_from_ne_true, true≢false, cases_Bool}

-- a key of another shape isn't found
pub find-other_shape : {X Y : Type 0} (key : X → Y) (same : Y → Y → Bool) → ((a b : Y) → same a b ≡ true → a ≡ b)
    → (shape : Y → Bool) (xs : List X) (y : Y) → list_all (λ x. shape (key x)) xs ≡ true → shape y ≡ false
    → find (λ x. same (key x) y) xs ≡ None
find-other_shape key same is shape [] y all e = refl
find-other_shape key same is shape (x ∷ xs) y all e =
    let parts = and_parts (shape (key x)) _ all in
    let differs : same (key x) y ≡ false =
    false_from_ne_true _ (λ found. true≢false (sym parts.0 ∙ ap shape (is (key x) y found) ∙ e)) in
    rw differs (find-other_shape key same is shape xs y parts.1 e)

-- what is found passes both tests
pub find-passes : {X : Type 0} (all test : X → Bool) (xs : List X) (x : X) → list_all all xs ≡ true → find test xs ≡ Some x
    → (all x ≡ true) × (test x ≡ true)
find-passes all test [] x e found = cc
find-passes all test (y ∷ ys) x e found =
    let parts = and_parts (all y) _ e in
    elim (cases_Bool (test y)) [
      | inl passes ↦
          let here : y ≡ x = (let f = rw passes at found in cc) in
          (ap all (sym here) ∙ parts.0, ap test (sym here) ∙ passes)
      | inr fails ↦ find-passes all test ys x parts.1 (rw fails at found)
    ]

-- the same if a part of it is asked for
pub find-part : {X Y : Type 0} (part : X → Y) (all test : X → Bool) (xs : List X) (y : Y) → list_all all xs ≡ true
    → option_map part (find test xs) ≡ Some y → (x : X) × (all x ≡ true) × (test x ≡ true) × (part x ≡ y)
find-part {X = X} part all test xs y e found = part_of (find test xs) refl found
  where
    part_of : (o : Option X) → find test xs ≡ o → option_map part o ≡ Some y → (x : X) × (all x ≡ true) × (test x ≡ true)
        × (part x ≡ y)
    part_of None is found = cc
    part_of (Some x) is found = let both = find-passes all test xs x e is in (x, both.0, both.1, (cc))
