-- Lines of whole lines and of what comes after them.
use Rattle.std.proofs.Common.{◌≡◌, ℕ, Bool, true, false, List, [], ◌∷◌, ◌++◌, length, refl, ap, sym, ◌∙◌, append_assoc, ◌==◌, inl, inr}
use Rattle.std.specs.List.{slice_split, onto_first}
use Rattle.std.specs.Prelude.{if◌then◌else◌, map}
use Rattle.std.specs.Str.Lines.{lines, lines_of_parts, strip_carriage_return}
use Rattle.pager.specs.Growing.{AreWholeLines}

abbrev parts : List ℕ → List (List ℕ)
parts = slice_split (λ b. b == 10)

-- the first part of a list of parts grows
first-grows : (x : ℕ) (ps qs : List (List ℕ)) → ((p : List ℕ) × (rest : List (List ℕ)) × (ps ≡ p ∷ rest))
    → onto_first x (ps ++ qs) ≡ onto_first x ps ++ qs
first-grows x ps qs (p, rest, is) = ap (λ (l : List (List ℕ)). onto_first x (l ++ qs)) is ∙ sym (ap (λ (l : List (List ℕ)). onto_first x l ++ qs) is)

abbrev Some-part : List ℕ → Type 0
Some-part bs = (p : List ℕ) × (rest : List (List ℕ)) × (parts bs ≡ p ∷ rest)

onto-some : (x : ℕ) (ps : List (List ℕ)) → (p : List ℕ) × (rest : List (List ℕ)) × (onto_first x ps ≡ p ∷ rest)
onto-some x [] = (x ∷ [], [], refl)
onto-some x (p ∷ ps) = (x ∷ p, ps, refl)

some-by : (x : ℕ) (bs : List ℕ) (b : Bool) → (x == 10) ≡ b → Some-part (x ∷ bs)
some-by x bs true is = ([], parts bs, ap (λ c. if c then [] ∷ parts bs else onto_first x (parts bs)) is)
some-by x bs false is =
    let more = onto-some x (parts bs) in
    (more.0, more.1, ap (λ c. if c then [] ∷ parts bs else onto_first x (parts bs)) is ∙ more.2)

some-part : (bs : List ℕ) → Some-part bs
some-part [] = ([], [], refl)
some-part (x ∷ bs) = some-by x bs (x == 10) refl

-- the parts before a line's end, and those after it
parts-by : (x : ℕ) (xs ys : List ℕ) (b : Bool) → (x == 10) ≡ b
    → parts (xs ++ 10 ∷ ys) ≡ parts xs ++ parts ys
    → parts (x ∷ (xs ++ 10 ∷ ys)) ≡ parts (x ∷ xs) ++ parts ys
parts-by x xs ys true is before =
    ap (λ c. if c then [] ∷ parts (xs ++ 10 ∷ ys) else onto_first x (parts (xs ++ 10 ∷ ys))) is
    ∙ ap (λ l. [] ∷ l) before
    ∙ sym (ap (λ c. (if c then [] ∷ parts xs else onto_first x (parts xs)) ++ parts ys) is)
parts-by x xs ys false is before =
    ap (λ c. if c then [] ∷ parts (xs ++ 10 ∷ ys) else onto_first x (parts (xs ++ 10 ∷ ys))) is
    ∙ ap (onto_first x) before
    ∙ first-grows x (parts xs) (parts ys) (some-part xs)
    ∙ sym (ap (λ c. (if c then [] ∷ parts xs else onto_first x (parts xs)) ++ parts ys) is)

parts-join : (xs ys : List ℕ) → parts (xs ++ 10 ∷ ys) ≡ parts xs ++ parts ys
parts-join [] ys = refl
parts-join (x ∷ xs) ys = parts-by x xs ys (x == 10) refl (parts-join xs ys)

-- each part that another one follows is a line of its own
lines-by : (ps : List (List ℕ)) (q : List ℕ) (qs : List (List ℕ))
    → lines_of_parts (ps ++ q ∷ qs) ≡ map strip_carriage_return ps ++ lines_of_parts (q ∷ qs)
lines-by [] q qs = refl
lines-by (p ∷ []) q qs = refl
lines-by (p ∷ p' ∷ ps) q qs = ap (λ l. strip_carriage_return p ∷ l) (lines-by (p' ∷ ps) q qs)

lines-split : (xs ys : List ℕ) → Some-part ys → lines (xs ++ 10 ∷ ys) ≡ map strip_carriage_return (parts xs) ++ lines ys
lines-split xs ys (q, qs, is) =
    ap lines_of_parts (parts-join xs ys) ∙ ap (λ l. lines_of_parts (parts xs ++ l)) is
    ∙ lines-by (parts xs) q qs ∙ sym (ap (λ l. map strip_carriage_return (parts xs) ++ lines_of_parts l) is)

append-none : (xs : List (List ℕ)) → xs ++ [] ≡ xs
append-none [] = refl
append-none (x ∷ xs) = ap (λ l. x ∷ l) (append-none xs)

-- the lines of whole lines, and then those of what comes after them
pub lines-join : (front more : List ℕ) → lines ((front ++ 10 ∷ []) ++ more) ≡ lines (front ++ 10 ∷ []) ++ lines more
lines-join front more =
    ap lines (append_assoc front (10 ∷ []) more) ∙ lines-split front more (some-part more)
    ∙ sym (ap (λ l. l ++ lines more) (lines-split front [] (some-part []) ∙ append-none (map strip_carriage_return (parts front))))

pub whole-lines : (front more : List ℕ) → AreWholeLines front → lines (front ++ more) ≡ lines front ++ lines more
whole-lines front more (inl none) =
    ap (λ l. lines (l ++ more)) none ∙ sym (ap (λ l. lines l ++ lines more) none)
whole-lines front more (inr (before, is)) =
    ap (λ l. lines (l ++ more)) is ∙ lines-join before more ∙ sym (ap (λ l. lines l ++ lines more) is)
