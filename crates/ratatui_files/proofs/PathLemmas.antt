-- Texts that begin with others.
use Rattle.std.proofs.Common.{◌≡◌, ◌<◌, ℕ, zero, suc, Bool, true, false, ◌&&◌, ◌||◌, length, drop}
use Rattle.std.proofs.Common.{List, [], ◌∷◌, ◌++◌, Option, None, Some}
use Rattle.std.proofs.Common.{refl, ap, sym, ◌∙◌, append_assoc, arith, not, cond, ◌+◌}
use Rattle.std.specs.Prelude.{codes, nat_eq, ◌==◌, if◌then◌else◌}
use Rattle.std.specs.List.{starts_with, list_all, list_any, slice_split, onto_first, count_by, AllWithin}
use Rattle.std.specs.List.{HoldsAt}
use Rattle.std.specs.List.{slice_index_or}
use Rattle.std.specs.Bool.{MatchBool}
use Rattle.std.specs.Str.{bytes_eq}
use Rattle.std.specs.Str.Pattern.{LacksTextAt}
use Rattle.std.proofs.lemmas.List.Splits.{slice_split_none, length-slice_split}
use Rattle.std.proofs.lemmas.List.Folds.{list_all-append}
use Rattle.std.proofs.lemmas.Bool.{and_parts, and_right, or_parts, or_right, not-true}
use Rattle.ratatui_events.proofs.TextLemmas.{begins, differs}
use Rattle.ratatui_files.specs.Paths.{after_start, is_slash, is_unnamed, is_name, is_path, path_in}

chosen : List ℕ → List ℕ → Bool → Option (List ℕ)
chosen start text b = if b then Some (drop (length start) text) else None

-- what `strip_prefix` gives
pub after-start_some : (start text rest : List ℕ) (k : ℕ) → k ≡ length start → text ≡ start ++ drop k text
    → rest ≡ drop k text
    → Some rest ≡ after_start start text
unfolding chosen
after-start_some start text rest k n e r =
    ap Some (r ∙ ap (λ (m : ℕ). drop m text) n)
    ∙ sym (ap (chosen start text) (begins text start (drop k text) e))

pub after-start_none : (start text : List ℕ) → LacksTextAt start text 0 → None ≡ after_start start text
unfolding chosen
after-start_none start text h = sym (ap (chosen start text) (differs text start (starts_with nat_eq text start) refl h))

-- ---- names between slashes

module _ (p : List ℕ → Bool) where
  all-pass : (xs : List (List ℕ)) → ((k : ℕ) (d : List ℕ) → k < length xs → p (slice_index_or xs k d) ≡ true)
      → list_all p xs ≡ true
  all-pass [] h = refl
  all-pass (x ∷ xs) h =
      let first : p x ≡ true = h 0 [] (omega arith) in
      let rest : list_all p xs ≡ true = all-pass xs (λ k d l. h (suc k) d (omega arith)) in
      ap (λ b. b && list_all p xs) first ∙ rest

  one-fails : (xs : List (List ℕ)) (k : ℕ) → k < length xs → p (slice_index_or xs k []) ≡ false → list_all p xs ≡ false
  one-fails [] k l e = absurd (omega arith)
  one-fails (x ∷ xs) zero l e = ap (λ b. b && list_all p xs) e
  one-fails (x ∷ xs) (suc k) l e =
      let rest : list_all p xs ≡ false = one-fails xs k (omega arith) e in
      ap (λ b. p x && b) rest ∙ and_right (p x) false refl

  pub all-tested : (xs : List (List ℕ)) (r : Bool)
      → MatchBool r (AllWithin (λ x. p x ≡ true) xs 0 (length xs))
      ((k : ℕ) × (k < length xs) × HoldsAt (λ x. p x ≡ false) xs k)
      → r ≡ list_all p xs
  all-tested xs true h = sym (all-pass xs (λ k d l. h k d (omega arith) l))
  all-tested xs false h = sym (one-fails xs h.0 h.1 (h.2 []))

-- the parts of a text that isn't empty
pub is_path-parts : (text : List ℕ) (r b : Bool) → b ≡ (length text == 0) → b ≡ false
    → r ≡ list_all is_name (slice_split is_slash text) → r ≡ is_path text
is_path-parts [] r b e f h = cc
is_path-parts (x ∷ text) r b e f h = h

-- the parts of two texts with a slash between them
onto_first-append : (x : ℕ) (ps qs : List (List ℕ)) → 0 < length ps → onto_first x (ps ++ qs) ≡ onto_first x ps ++ qs
onto_first-append x [] qs l = absurd (omega arith)
onto_first-append x (p ∷ ps) qs l = refl

split-joined : (folder name : List ℕ)
    → slice_split is_slash (folder ++ 47 ∷ name) ≡ slice_split is_slash folder ++ slice_split is_slash name
split-joined [] name = refl
split-joined (x ∷ folder) name = ap (λ ps. cond (is_slash x) ([] ∷ ps) (onto_first x ps)) (split-joined folder name)
    ∙ by-first (is_slash x)
  where
    by-first : (b : Bool) → cond b ([] ∷ (slice_split is_slash folder ++ slice_split is_slash name))
        (onto_first x (slice_split is_slash folder ++ slice_split is_slash name))
        ≡ cond b ([] ∷ slice_split is_slash folder) (onto_first x (slice_split is_slash folder)) ++ slice_split is_slash name
    by-first true = refl
    by-first false = onto_first-append x (slice_split is_slash folder) (slice_split is_slash name)
        (let some : length (slice_split is_slash folder) ≡ count_by is_slash folder + 1 =
        length-slice_split is_slash folder in
        omega (arith, some))

-- a name has no slash
no-slashes : (name : List ℕ) → list_any is_unnamed name ≡ false → (k : ℕ) (d : ℕ) → k < length name
    → is_slash (slice_index_or name k d) ≡ false
no-slashes [] e k d l = absurd (omega arith)
no-slashes (x ∷ name) e zero d l =
    (or_parts (x == 0) (is_slash x) (or_parts (is_unnamed x) (list_any is_unnamed name) e).0).1
no-slashes (x ∷ name) e (suc k) d l =
    no-slashes name (or_parts (is_unnamed x) (list_any is_unnamed name) e).1 k d (omega arith)

name-unslashed : (name : List ℕ) → is_name name ≡ true → list_any is_unnamed name ≡ false
name-unslashed name e =
    let named : Bool = not (bytes_eq name []) && not (bytes_eq name (codes ".")) && not (bytes_eq name (codes "..")) in
    not-true (list_any is_unnamed name) (and_parts named (not (list_any is_unnamed name)) e).1

split-name : (name : List ℕ) → is_name name ≡ true → slice_split is_slash name ≡ name ∷ []
split-name name e = slice_split_none is_slash name (no-slashes name (name-unslashed name e))

-- the path of a name in a folder is a path
is_path-entry : (folder name : List ℕ) → is_path folder ≡ true → is_name name ≡ true → is_path (path_in folder name) ≡ true
is_path-entry [] name p e =
    ap (λ ps. bytes_eq name [] || list_all is_name ps) (split-name name e) ∙ ap (λ b. bytes_eq name [] || (b && true)) e
    ∙ or_right (bytes_eq name []) true refl
is_path-entry (c ∷ folder) name p e =
    ap (λ text. list_all is_name (slice_split is_slash text)) (append_assoc (c ∷ folder) (codes "/") name)
    ∙ ap (list_all is_name)
    (split-joined (c ∷ folder) name ∙ ap (λ ps. slice_split is_slash (c ∷ folder) ++ ps) (split-name name e))
    ∙ list_all-append is_name (slice_split is_slash (c ∷ folder)) (name ∷ [])
    ∙ ap (λ b. b && (is_name name && true)) p ∙ ap (λ b. b && true) e

pub is_path-named : (folder name text : List ℕ) → is_path folder ≡ true → is_name name ≡ true → text ≡ path_in folder name
    → is_path text ≡ true
is_path-named folder name text p n e = ap is_path e ∙ is_path-entry folder name p n
