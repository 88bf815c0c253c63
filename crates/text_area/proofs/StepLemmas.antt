-- Steps, the last one first.
use Rattle.std.proofs.Common.{ℕ, ◌≡◌, ◌+◌, ◌-◌, ◌<◌, ◌≤◌, List, [], ◌∷◌, ◌++◌, length, take, drop, reverse}
use Rattle.std.proofs.Common.{get_or, set}
use Rattle.std.proofs.Common.{refl, sym, ap, ◌∙◌, arith}
use Rattle.std.proofs.lemmas.{List.reverse-append, List.length-reverse, List.take-append-drop, List.take_at}
use Rattle.std.proofs.lemmas.{List.take_all, List.drop_at, List.length-drop, List.take_more}
use Rattle.std.proofs.lemmas.{List.take_more_set, List.length-set}
use Rattle.std.specs.List.{remove}
use Rattle.text_area.specs.Journals.{StepData, undo_step, longer}

pub reverse-push : (xs : List StepData) (x : StepData) → reverse (xs ++ x ∷ []) ≡ x ∷ reverse xs
reverse-push xs x = reverse-append xs (x ∷ [])

drop-reverse : (xs : List StepData) (n m : ℕ) → n + m ≡ length xs → drop n (reverse xs) ≡ reverse (take m xs)
drop-reverse xs n m both =
    let parts : reverse xs ≡ reverse (drop m xs) ++ reverse (take m xs) =
    ap reverse (sym (take-append-drop m xs)) ∙ reverse-append (take m xs) (drop m xs) in
    let size : length (reverse (drop m xs)) ≡ n = length-reverse (drop m xs) ∙ length-drop m xs
    ∙ omega (arith, both) in
    ap (drop n) parts ∙ drop_at (reverse (drop m xs)) (reverse (take m xs)) n size

-- without the last one
pub reverse-shorter : (xs : List StepData) (n : ℕ) → n ≡ length xs → reverse (take (n - 1) xs)
    ≡ drop 1 (reverse xs)
reverse-shorter [] n is = let none : List StepData = [] in ap (λ m. reverse (take (m - 1) none)) is
reverse-shorter (x ∷ xs) n is = sym (drop-reverse (x ∷ xs) 1 (n - 1) (omega (arith, is)))

-- the last one is the first
pub reverse-first : (xs : List StepData) (x : StepData) → 0 < length xs → x ≡ get_or xs (length xs - 1) x
    → reverse xs ≡ x ∷ drop 1 (reverse xs)
reverse-first xs x some is =
    let same : length xs - 1 + 1 ≡ length xs = omega (arith, some) in
    let parts : xs ≡ take (length xs - 1) xs ++ x ∷ [] =
    sym (take_all (length xs) xs (omega arith)) ∙ ap (λ m. take m xs) (sym same)
    ∙ take_more xs (length xs - 1) x (omega (arith, some))
    ∙ ap (λ y. take (length xs - 1) xs ++ y ∷ []) (sym is) in
    ap reverse parts ∙ reverse-push (take (length xs - 1) xs) x
    ∙ ap (λ ys. x ∷ ys) (reverse-shorter xs (length xs) refl)

-- with another one in place of the last one
pub reverse-set : (xs : List StepData) (y : StepData) → 0 < length xs → reverse (set xs (length xs - 1) y)
    ≡ y ∷ drop 1 (reverse xs)
reverse-set xs y some =
    let last : ℕ = length xs - 1 in
    let same : last + 1 ≡ length xs = omega (arith, some) in
    let parts : set xs last y ≡ take last xs ++ y ∷ [] =
    sym (take_all (length xs) (set xs last y) (omega (arith, length-set xs last y)))
    ∙ ap (λ m. take m (set xs last y)) (sym same) ∙ take_more_set xs last y (omega (arith, some)) in
    ap reverse parts ∙ reverse-push (take last xs) y
    ∙ ap (λ ys. y ∷ ys) (reverse-shorter xs (length xs) refl)

-- the last change undoes all up to a place
pub reverse-longer : (xs now : List StepData) (x y : StepData) (i to : ℕ) → reverse xs ≡ now → i + 1 ≡ length xs
    → x ≡ get_or xs i x → y ≡ undo_step x.at to x.was x.cursor → reverse (set xs i y) ≡ longer to now
reverse-longer xs now x y i to view last is made =
    let some : 0 < length xs = omega (arith, last) in
    let place : i ≡ length xs - 1 = omega (arith, last) in
    let first : now ≡ x ∷ drop 1 (reverse xs) =
    sym view ∙ reverse-first xs x some (is ∙ ap (λ n. get_or xs n x) place) in
    ap (λ n. reverse (set xs n y)) place ∙ reverse-set xs y some ∙ ap (λ z. z ∷ drop 1 (reverse xs)) made
    ∙ sym (ap (longer to) first)

-- without the first one, which is the last
pub reverse-kept : (xs : List StepData) (most : ℕ) → length xs ≡ most + 1 → reverse (remove xs 0)
    ≡ take most (reverse xs)
reverse-kept [] most is = absurd (omega (arith, is))
reverse-kept (x ∷ xs) most is =
    sym (ap (take most) (reverse-append (x ∷ []) xs)
    ∙ take_at (reverse xs) (x ∷ []) most (length-reverse xs ∙ omega (arith, is)))

pub reverse-all : (xs : List StepData) (most : ℕ) → length xs ≤ most → reverse xs ≡ take most (reverse xs)
reverse-all xs most le = sym (take_all most (reverse xs) (omega (arith, length-reverse xs, le)))

pub ruleset stack_rules = (
  reverse-push,
  reverse-shorter,
  reverse-first,
  reverse-kept,
  reverse-all,
  length-reverse,
)
