-- Lists made from a function over places.
use Rattle.std.proofs.Common.{◌≡◌, ℕ, zero, suc, add-zero, ◌+◌, ◌<◌, ◌++◌, ◌∷◌, [], map, refl, sym, ap, ◌∙◌, arith, append_assoc}
use Rattle.std.proofs.Common.{◌≤◌}
use Rattle.std.proofs.lemmas.{List.append-nil, List.FromFn.map-range_with_len_more}
use Rattle.std.specs.List.{range_with_len}

-- the first k places from i on, and the n after them
pub range_split : {X : Type 0} (f : ℕ → X) (i k n : ℕ)
    → map f (range_with_len i (k + n)) ≡ map f (range_with_len i k) ++ map f (range_with_len (i + k) n)
range_split f i k zero = rw add-zero (sym (append-nil (map f (range_with_len i k))))
range_split f i k (suc n) =
    let whole : k + suc n ≡ (k + n) + 1 = omega arith in
    let part : n + 1 ≡ suc n = omega arith in
    ap (λ m. map f (range_with_len i m)) whole
    ∙ map-range_with_len_more f i (k + n) (i + k + n) (omega arith)
    ∙ ap (λ xs. xs ++ f (i + k + n) ∷ []) (range_split f i k n)
    ∙ append_assoc (map f (range_with_len i k)) _ _
    ∙ ap (λ xs. map f (range_with_len i k) ++ xs) (sym (map-range_with_len_more f (i + k) n (i + k + n) refl)
    ∙ ap (λ m. map f (range_with_len (i + k) m)) part)

-- two such lists are the same where the functions are, wherever their places start
pub same_places : {X : Type 0} (f g : ℕ → X) (i j n : ℕ) → ((k : ℕ) → k < n → f (i + k) ≡ g (j + k))
    → map f (range_with_len i n) ≡ map g (range_with_len j n)
same_places f g i j zero same = refl
same_places f g i j (suc n) same =
    let here : f i ≡ g j = ap f (omega arith) ∙ same 0 (omega arith) ∙ ap g (omega arith) in
    let rest : map f (range_with_len (i + 1) n) ≡ map g (range_with_len (j + 1) n) = same_places f g (i + 1)
    (j + 1) n (λ k low. ap f (omega arith) ∙ same (k + 1) (omega arith) ∙ ap g (omega arith)) in
    cc

-- a list made from a function depends on the function at its places alone
pub map_same : {X : Type 0} (f g : ℕ → X) (a n : ℕ) → ((i : ℕ) → a ≤ i → i < a + n → f i ≡ g i)
    → map f (range_with_len a n) ≡ map g (range_with_len a n)
map_same f g a n same = same_places f g a a n (λ k low. same (a + k) (omega arith) (omega arith))

-- the first k places, and the n after them
pub places_split : {X : Type 0} (f : ℕ → X) (k n : ℕ)
    → map f (range_with_len 0 (k + n)) ≡ map f (range_with_len 0 k) ++ map (λ i. f (i + k)) (range_with_len 0 n)
places_split f k n =
    range_split f 0 k n ∙ ap (λ xs. map f (range_with_len 0 k) ++ xs)
    (same_places f (λ i. f (i + k)) (0 + k) 0 n (λ j low. ap f (omega arith)))
