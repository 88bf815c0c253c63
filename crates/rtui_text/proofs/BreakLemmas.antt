-- Lines of a text: none of them has a line break, and a text without one is its only line.
use Rattle.std.proofs.Common.{◌≡◌, ℕ, zero, suc, ◌<◌, ◌-◌, true, false, ◌==◌, List, [], ◌∷◌, length, take, get_or, refl, arith}
use Rattle.std.proofs.Common.{slice_index}
use Rattle.std.proofs.lemmas.{Bool.or_parts, Bool.cond_both, Bool.Decides.nat_tests}
use Rattle.std.specs.{List.list_any, List.slice_split, List.onto_first, Str.Lines.lines, Str.Lines.lines_of_parts}
use Rattle.std.specs.{Str.Lines.strip_carriage_return}
use Rattle.rtui_text.specs.Text.{raw_line, line_of, unstyled}
use Rattle.rtui_text.specs.Inner.{IsUnbroken}

unbroken-one : (x : List ℕ) → IsUnbroken x → slice_split (λ b. b == 10) x ≡ x ∷ []
unbroken-one [] e = refl
unbroken-one (b ∷ bs) e = let h = or_parts (b == 10) (list_any (λ c. c == 10) bs) e in rw (h.0, unbroken-one bs h.1) refl

-- a text without line breaks is its only line, or has none if it is empty
pub line-empty : (x : List ℕ) → (length x == 0) ≡ true → raw_line x ≡ line_of []
line-empty [] none = refl
line-empty (b ∷ bs) none = let h : ⊥ = grind (arith, nat_tests) in absurd h

pub line-whole : (x : List ℕ) → IsUnbroken x → (length x == 0) ≡ false → raw_line x ≡ line_of (unstyled x ∷ [])
line-whole x e some = rw (unbroken-one x e, some) refl

abbrev AreUnbroken : List (List ℕ) → Type 0
AreUnbroken [] = Unit {0}
AreUnbroken (x ∷ xs) = IsUnbroken x × AreUnbroken xs

onto-unbroken : (b : ℕ) (parts : List (List ℕ)) → (b == 10) ≡ false → AreUnbroken parts → AreUnbroken (onto_first b parts)
onto-unbroken b [] e all = (rw e refl, tt)
onto-unbroken b (x ∷ xs) e all = (rw e all.0, all.1)

parts-unbroken : (bs : List ℕ) → AreUnbroken (slice_split (λ b. b == 10) bs)
parts-unbroken [] = (refl, tt)
parts-unbroken (b ∷ bs) = cond_both (b == 10) ([] ∷ slice_split (λ c. c == 10) bs) _ AreUnbroken (λ e. (refl, parts-unbroken bs))
    (λ e. onto-unbroken b (slice_split (λ c. c == 10) bs) e (parts-unbroken bs))

take-unbroken : (n : ℕ) (x : List ℕ) → IsUnbroken x → IsUnbroken (take n x)
take-unbroken zero x e = refl
take-unbroken (suc n) [] e = refl
take-unbroken (suc n) (b ∷ bs) e = let h = or_parts (b == 10) (list_any (λ c. c == 10) bs) e in rw h.0 (take-unbroken n bs h.1)

strip-unbroken : (x : List ℕ) → IsUnbroken x → IsUnbroken (strip_carriage_return x)
strip-unbroken x e = cond_both (slice_index x (length x - 1) == 13) (take (length x - 1) x) x IsUnbroken
    (λ _. take-unbroken (length x - 1) x e) (λ _. e)

lines_of_parts-unbroken : (ps : List (List ℕ)) → AreUnbroken ps → AreUnbroken (lines_of_parts ps)
lines_of_parts-unbroken [] all = tt
lines_of_parts-unbroken (x ∷ []) all = cond_both (length x == 0) [] (x ∷ []) AreUnbroken (λ _. tt) (λ _. (all.0, tt))
lines_of_parts-unbroken (x ∷ y ∷ more) all = (strip-unbroken x all.0, lines_of_parts-unbroken (y ∷ more) all.1)

at-unbroken : (xs : List (List ℕ)) (i : ℕ) (x : List ℕ) → AreUnbroken xs → i < length xs → IsUnbroken (get_or xs i x)
at-unbroken [] i x all lt = absurd (omega arith)
at-unbroken (y ∷ ys) zero x all lt = all.0
at-unbroken (y ∷ ys) (suc i) x all lt = at-unbroken ys i x all.1 (omega arith)

-- no line of a text has a line break
pub line-unbroken : (bs : List ℕ) (i : ℕ) (x : List ℕ) → i < length (lines bs) → x ≡ get_or (lines bs) i x → IsUnbroken x
line-unbroken bs i x lt is = rw is (at-unbroken (lines bs) i x (lines_of_parts-unbroken (slice_split (λ b. b == 10) bs)
    (parts-unbroken bs)) lt)
