-- Where a path is cut, and what texts have in common.
use Rattle.std.proofs.Common.{◌≡◌, ⊎_elim, ◌<◌, ◌+◌, ◌-◌, ◌==◌, ℕ, zero, suc, true, false, min, arith}
use Rattle.std.proofs.Common.{List, [], ◌∷◌, length, take, drop, Some, None, option_map, refl, ap, sym, ◌∙◌, subst}
use Rattle.std.specs.Prelude.{get_or}
use Rattle.std.specs.Path.{rfind_below, rsplit_once}
use Rattle.std.specs.Str.{NoCharPasses}
use Rattle.std.proofs.lemmas.Bool.{cases_Bool}
use Rattle.std.proofs.lemmas.{Bool.Decides.nat_tests}
use Rattle.std.proofs.lemmas.Str.Pattern.{NoCharPasses-char}
use Rattle.std.proofs.lemmas.List.{get_or-drop, length-drop}
use Rattle.files.specs.Completions.{common_count}

same-byte : (a b : ℕ) → (a == b) ≡ true → a ≡ b
same-byte a b is = grind (arith, nat_tests)

other-byte : (a b : ℕ) → (a ≡ b → ⊥) → (a == b) ≡ false
other-byte a b other = ⊎_elim
    (λ (is : (a == b) ≡ true). absurd (other (same-byte a b is)))
    (λ (no : (a == b) ≡ false). no)
    (cases_Bool (a == b))

is-byte : (a b : ℕ) → a ≡ b → (a == b) ≡ true
is-byte a b same = grind (arith, nat_tests)

-- ---- the last place of a byte

none-below : (c : ℕ) (text : List ℕ) (n : ℕ) → ((i : ℕ) → i < n → get_or text i 0 ≡ c → ⊥) → rfind_below c text n ≡ None
none-below c text zero none = refl
none-below c text (suc n) none = rw (other-byte (get_or text n 0) c (none n (omega arith)))
    (none-below c text n (λ i l. none i (omega arith)))

last-below : (c : ℕ) (text : List ℕ) (k n : ℕ) → k < n → get_or text k 0 ≡ c
    → ((i : ℕ) → k < i → i < n → get_or text i 0 ≡ c → ⊥) → rfind_below c text n ≡ Some k
last-below c text k zero l at later = absurd (omega arith)
last-below c text k (suc n) l at later = ⊎_elim
    (λ (here : (k == n) ≡ true). let same = same-byte k n here in
    rw (is-byte (get_or text n 0) c (ap (λ i. get_or text i 0) (sym same) ∙ at)) (ap Some (sym same)))
    (λ (before : (k == n) ≡ false). let less : k < n = grind (arith, nat_tests) in
    rw (other-byte (get_or text n 0) c (later n less (omega arith)))
    (last-below c text k n less at (λ i a b. later i a (omega arith))))
    (cases_Bool (k == n))

pub cut-none : (c : ℕ) (text : List ℕ) → c < 128 → NoCharPasses (λ d. d == c) text → None ≡ rsplit_once c text
unfolding rsplit_once
cut-none c text low none =
    sym (ap (option_map (λ i. (take i text, drop (i + 1) text)))
    (none-below c text (length text) (λ i. NoCharPasses-char c text i none low)))

-- a byte stands at a place, and none like it after that
none-later : (c : ℕ) (text : List ℕ) (i : ℕ) → c < 128 → NoCharPasses (λ d. d == c) (drop (i + 1) text)
    → (k : ℕ) → i < k → k < length text → get_or text k 0 ≡ c → ⊥
none-later c text i low none k after within at =
    let back : (i + 1) + (k - (i + 1)) ≡ k = omega arith in
    NoCharPasses-char c (drop (i + 1) text) (k - (i + 1)) none low (omega (arith, length-drop (i + 1) text))
    (get_or-drop (i + 1) text (k - (i + 1)) 0 ∙ ap (λ n. get_or text n 0) back ∙ at)

pub cut-some : (c : ℕ) (text front back : List ℕ) (i j : ℕ) → c < 128 → j ≡ i + 1 → get_or text i 0 ≡ c
    → NoCharPasses (λ d. d == c) (drop j text) → front ≡ take i text → back ≡ drop j text → length back + j ≡ length text
    → Some (front, back) ≡ rsplit_once c text
unfolding rsplit_once
cut-some c text front back i j low next at none first second whole =
    let later = none-later c text i low (subst (λ n. NoCharPasses (λ d. d == c) (drop n text)) next none) in
    let within : i < length text = omega arith in
    rw first (rw second (rw next
    (sym (ap (option_map (λ k. (take k text, drop (k + 1) text))) (last-below c text i (length text) within at later)))))

-- ---- what is in common

add-next : (n k : ℕ) → n + suc k ≡ suc n + k
add-next n k = omega arith

step-more : (n : ℕ) (one other : List ℕ) (x y : ℕ) → n < length one → n < length other → x ≡ get_or one n x
    → y ≡ get_or other n y → x ≡ y
    → common_count (drop n one) (drop n other) ≡ suc (common_count (drop (suc n) one) (drop (suc n) other))
unfolding common_count
step-more n [] other x y l m first second same = absurd (omega arith)
step-more n (c ∷ one) [] x y l m first second same = absurd (omega arith)
step-more zero (c ∷ one) (d ∷ other) x y l m first second same = rw (is-byte c d (sym first ∙ same ∙ second)) refl
step-more (suc n) (c ∷ one) (d ∷ other) x y l m first second same =
    step-more n one other x y (omega arith) (omega arith) first second same

pub count-more : (all n : ℕ) (one other : List ℕ) (x y : ℕ) → n < min (length one) (length other) → x ≡ get_or one n x
    → y ≡ get_or other n y → x ≡ y → all ≡ n + common_count (drop n one) (drop n other)
    → all ≡ (n + 1) + common_count (drop (n + 1) one) (drop (n + 1) other)
count-more all n one other x y l first second same is =
    let next : n + 1 ≡ suc n = omega arith in
    let step = step-more n one other x y (omega arith) (omega arith) first second same in
    rw next (is ∙ ap (λ k. n + k) step ∙ add-next n (common_count (drop (suc n) one) (drop (suc n) other)))

here-none : (n : ℕ) (one other : List ℕ) (x y : ℕ) → n < length one → n < length other → x ≡ get_or one n x
    → y ≡ get_or other n y → (x ≡ y → ⊥) → common_count (drop n one) (drop n other) ≡ 0
unfolding common_count
here-none n [] other x y l m first second differ = absurd (omega arith)
here-none n (c ∷ one) [] x y l m first second differ = absurd (omega arith)
here-none zero (c ∷ one) (d ∷ other) x y l m first second differ =
    rw (other-byte c d (λ same. differ (first ∙ same ∙ sym second))) refl
here-none (suc n) (c ∷ one) (d ∷ other) x y l m first second differ =
    here-none n one other x y (omega arith) (omega arith) first second differ

pub count-here : (all n : ℕ) (one other : List ℕ) (x y : ℕ) → n < min (length one) (length other) → x ≡ get_or one n x
    → y ≡ get_or other n y → (x ≡ y → ⊥) → all ≡ n + common_count (drop n one) (drop n other) → n ≡ all
count-here all n one other x y l first second differ is =
    let none = here-none n one other x y (omega arith) (omega arith) first second differ in omega (arith, is, none)

end-none : (n : ℕ) (one other : List ℕ) → n ≡ min (length one) (length other) → common_count (drop n one) (drop n other) ≡ 0
unfolding common_count
end-none zero [] other is = refl
end-none zero (c ∷ one) [] is = refl
end-none zero (c ∷ one) (d ∷ other) is = absurd (omega arith)
end-none (suc n) [] other is = absurd (omega arith)
end-none (suc n) (c ∷ one) [] is = absurd (omega arith)
end-none (suc n) (c ∷ one) (d ∷ other) is = end-none n one other (omega arith)

-- one of them is at its end
pub count-end : (all n : ℕ) (one other : List ℕ) → n ≡ min (length one) (length other)
    → all ≡ n + common_count (drop n one) (drop n other) → n ≡ all
count-end all n one other is whole = let none = end-none n one other is in omega (arith, whole, none)
