-- Runs at the start and at the end of lists, and cuts of texts.
use Rattle.std.proofs.Common.{ℕ, ◌≡◌, ◌+◌, ◌<◌, ◌≤◌, Bool, true, false, cond, List, [], ◌∷◌, ◌++◌, length, take, drop}
use Rattle.std.proofs.Common.{reverse, get_or, take_while, sym, ap, ◌∙◌, arith, filter, length-drop, add-one}
use Rattle.std.proofs.lemmas.{List.drop_more, List.take_more, List.drop_all, List.reverse-append, List.length-reverse}
use Rattle.std.proofs.lemmas.{List.take-append-drop, List.drop_at, List.Sums.take_while-cons}

-- how many elements a list begins with that pass a test
abbrev pub run_len : (ℕ → Bool) → List ℕ → ℕ
run_len p xs = length (take_while p xs)

pub run_len-cons_yes : (p : ℕ → Bool) (x : ℕ) (xs : List ℕ) → p x ≡ true → run_len p (x ∷ xs) ≡ run_len p xs + 1
run_len-cons_yes p x xs holds =
    ap length (take_while-cons p x xs ∙ ap (λ b. cond b (x ∷ take_while p xs) []) holds) ∙ sym (add-one (run_len p xs))

pub run_len-cons_no : (p : ℕ → Bool) (x : ℕ) (xs : List ℕ) → p x ≡ false → run_len p (x ∷ xs) ≡ 0
run_len-cons_no p x xs fails = ap length (take_while-cons p x xs ∙ ap (λ b. cond b (x ∷ take_while p xs) []) fails)

pub run_len-step : (p : ℕ → Bool) (xs : List ℕ) (i : ℕ) → i < length xs → p (get_or xs i 0) ≡ true
    → run_len p (drop i xs) ≡ run_len p (drop (i + 1) xs) + 1
run_len-step p xs i lt holds = ap (run_len p) (drop_more xs i 0 lt) ∙ run_len-cons_yes p _ _ holds

pub run_len-stop : (p : ℕ → Bool) (xs : List ℕ) (i : ℕ) → i < length xs → p (get_or xs i 0) ≡ false
    → run_len p (drop i xs) ≡ 0
run_len-stop p xs i lt fails = ap (run_len p) (drop_more xs i 0 lt) ∙ run_len-cons_no p _ _ fails

pub run_len-end : (p : ℕ → Bool) (xs : List ℕ) (i : ℕ) → length xs ≤ i → run_len p (drop i xs) ≡ 0
run_len-end p xs i le = ap (run_len p) (drop_all i xs le)

-- the front of a list, from its end
pub reverse-take_more : (xs : List ℕ) (i : ℕ) → i < length xs
    → reverse (take (i + 1) xs) ≡ get_or xs i 0 ∷ reverse (take i xs)
reverse-take_more xs i lt =
    ap reverse (take_more xs i 0 lt) ∙ reverse-append (take i xs) (get_or xs i 0 ∷ [])

pub back_len-step : (p : ℕ → Bool) (xs : List ℕ) (i : ℕ) → i < length xs → p (get_or xs i 0) ≡ true
    → run_len p (reverse (take (i + 1) xs)) ≡ run_len p (reverse (take i xs)) + 1
back_len-step p xs i lt holds = ap (run_len p) (reverse-take_more xs i lt) ∙ run_len-cons_yes p _ _ holds

pub back_len-stop : (p : ℕ → Bool) (xs : List ℕ) (i : ℕ) → i < length xs → p (get_or xs i 0) ≡ false
    → run_len p (reverse (take (i + 1) xs)) ≡ 0
back_len-stop p xs i lt fails = ap (run_len p) (reverse-take_more xs i lt) ∙ run_len-cons_no p _ _ fails

pub drop-reverse : (xs : List ℕ) (n m : ℕ) → n + m ≡ length xs → drop n (reverse xs) ≡ reverse (take m xs)
drop-reverse xs n m both =
    let parts : reverse xs ≡ reverse (drop m xs) ++ reverse (take m xs) =
    ap reverse (sym (take-append-drop m xs)) ∙ reverse-append (take m xs) (drop m xs) in
    let size : length (reverse (drop m xs)) ≡ n = length-reverse (drop m xs) ∙ length-drop m xs ∙ omega (arith, both) in
    ap (drop n) parts ∙ drop_at (reverse (drop m xs)) (reverse (take m xs)) n size

filter-cases : (b : Bool) (x : ℕ) (ys xs : List ℕ) → length ys ≤ length xs → length (cond b (x ∷ ys) ys) ≤ length (x ∷ xs)
filter-cases true x ys xs le = omega arith
filter-cases false x ys xs le = omega arith

pub length-filter_le : (p : ℕ → Bool) (xs : List ℕ) → length (filter p xs) ≤ length xs
length-filter_le p [] = omega arith
length-filter_le p (x ∷ xs) = filter-cases (p x) x (filter p xs) xs (length-filter_le p xs)
