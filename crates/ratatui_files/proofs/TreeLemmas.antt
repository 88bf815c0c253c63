-- Loops over what stands in a tree.
use Rattle.std.proofs.Common.{◌≡◌, ◌<◌, ◌+◌, ℕ, zero, suc, List, [], ◌∷◌, ◌++◌, length, take, drop, map}
use Rattle.std.proofs.Common.{Option, None}
use Rattle.std.proofs.Common.{Some}
use Rattle.std.proofs.Common.{refl, ap, sym, ◌∙◌, arith, get_or, Bool, true, false, cond}
use Rattle.std.specs.List.Retain.{IsFiltered, ReturnsInTurn}
use Rattle.std.specs.List.{filter, filter_map, cons_option, items_where_true, list_any, HoldsAt, AllWithin}
use Rattle.std.specs.List.{slice_index_or}
use Rattle.std.specs.Prelude.{◌||◌}
use Rattle.std.specs.Bool.{MatchBool}
use Rattle.std.proofs.Math.Seq.{take-append_seam}
use Rattle.std.proofs.lemmas.Bool.{or_right}
use Rattle.std.proofs.lemmas.List.{take_more, append-nil}
use Rattle.std.proofs.lemmas.List.Elements.{filter_map-append}
use Rattle.ratatui_files.specs.declared.node.Entry.{Entry}
use Rattle.ratatui_files.specs.Inner.{with_paths}
use Rattle.ratatui_files.specs.Trees.{with_path, renamed}
use Rattle.ratatui_files.specs.Paths.{moved_path}

module _ {X Y : Type 0} (f : X → Option Y) where
  -- with one more element
  filter_map_more : (xs : List X) (i : ℕ) (x : X) → i < length xs → x ≡ get_or xs i x
      → filter_map f (take (i + 1) xs) ≡ filter_map f (take i xs) ++ cons_option (f x) []
  filter_map_more xs i x l e =
      ap (filter_map f) (take_more xs i x l) ∙ filter_map-append f (take i xs) (get_or xs i x ∷ [])
      ∙ ap (λ v. filter_map f (take i xs) ++ cons_option (f v) []) (sym e)

  -- which gives nothing, or something
  pub filter_map_more-none : (xs : List X) (i : ℕ) (x : X) → i < length xs → x ≡ get_or xs i x → f x ≡ None
      → filter_map f (take (i + 1) xs) ≡ filter_map f (take i xs)
  filter_map_more-none xs i x l e none =
      filter_map_more xs i x l e ∙ ap (λ o. filter_map f (take i xs) ++ cons_option o []) none
      ∙ append-nil (filter_map f (take i xs))

  pub filter_map_more-some : (xs : List X) (i : ℕ) (x : X) (y : Y) → i < length xs → x ≡ get_or xs i x → f x ≡ Some y
      → filter_map f (take (i + 1) xs) ≡ filter_map f (take i xs) ++ y ∷ []
  filter_map_more-some xs i x y l e some =
      filter_map_more xs i x l e ∙ ap (λ o. filter_map f (take i xs) ++ cons_option o []) some

-- a test that always says what `test` says, in each state that P holds of
module _ {X P : Type 0} (R : P → X → Bool → P → Type 0) (I : P → Type 0) (test : X → Bool)
    (says : (p : P) (x : X) (b : Bool) (q : P) → I p → R p x b q → (b ≡ test x) × I q) where
  kept-in_turn : (p q : P) (bs : List Bool) (xs : List X) → I p → length bs ≡ length xs → ReturnsInTurn R p bs xs q
      → items_where_true bs xs ≡ filter test xs
  kept-in_turn p q [] [] i l t = refl
  kept-in_turn p q [] (x ∷ xs) i l t = absurd (omega arith)
  kept-in_turn p q (b ∷ bs) [] i l t = absurd t
  kept-in_turn p q (b ∷ bs) (x ∷ xs) i l t =
      let said : (b ≡ test x) × I t.0 = says p x b t.0 i t.1 in
      let rest : items_where_true bs xs ≡ filter test xs = kept-in_turn t.0 q bs xs said.1 (omega arith) t.2 in
      where-true b bs x xs ∙ ap (λ c. cond c (x ∷ items_where_true bs xs) (items_where_true bs xs)) said.0
      ∙ ap (λ ys. cond (test x) (x ∷ ys) ys) rest
    where
      where-true : (b : Bool) (bs : List Bool) (x : X) (xs : List X)
          → items_where_true (b ∷ bs) (x ∷ xs) ≡ cond b (x ∷ items_where_true bs xs) (items_where_true bs xs)
      where-true true bs x xs = refl
      where-true false bs x xs = refl

  -- what `retain` keeps
  pub filtered-while : (p : P) (xs ys : List X) → I p → IsFiltered R p xs ys → ys ≡ filter test xs
  filtered-while p xs ys i h = h.4 ∙ kept-in_turn p h.1 h.0 xs i h.2 h.3

-- with the paths that all have after a move, a tree is renamed
renamed-by_paths : (from to : List ℕ) (t : List Entry)
    → with_paths t (map (λ e. moved_path from to e.path) t) ≡ renamed from to t
renamed-by_paths from to [] = refl
renamed-by_paths from to (e ∷ t) = ap (λ rest. with_path e (moved_path from to e.path) ∷ rest) (renamed-by_paths from to t)

-- what `any` answers
module _ {X : Type 0} (p : X → Bool) where
  one-passes : (xs : List X) (k : ℕ) → k < length xs → HoldsAt (λ x. p x ≡ true) xs k → list_any p xs ≡ true
  one-passes [] k l h = absurd (omega arith)
  one-passes (x ∷ xs) zero l h = ap (λ b. b || list_any p xs) (h x)
  one-passes (x ∷ xs) (suc k) l h = ap (λ b. p x || b) (one-passes xs k (omega arith) h)
      ∙ or_right (p x) true refl

  none-passes : (xs : List X) → ((k : ℕ) (d : X) → k < length xs → p (slice_index_or xs k d) ≡ false) → list_any p xs ≡ false
  none-passes [] h = refl
  none-passes (x ∷ xs) h =
      ap (λ b. b || list_any p xs) (h 0 x (omega arith)) ∙ none-passes xs (λ k d l. h (suc k) d (omega arith))

  pub any-tested : (xs : List X) (r : Bool)
      → MatchBool r ((k : ℕ) × (k < length xs) × HoldsAt (λ x. p x ≡ true) xs k)
      (AllWithin (λ x. p x ≡ false) xs 0 (length xs))
      → r ≡ list_any p xs
  any-tested xs true h = sym (one-passes xs h.0 h.1 h.2)
  any-tested xs false h = sym (none-passes xs (λ k d l. h k d (omega arith) l))

length-with_paths : (t : List Entry) (paths : List (List ℕ)) → length (with_paths t paths) ≡ length t
length-with_paths [] paths = refl
length-with_paths (e ∷ t) [] = refl
length-with_paths (e ∷ t) (path ∷ paths) = ap suc (length-with_paths t paths)

-- all things with their new paths, written over a list of them
pub renamed-written : (from to : List ℕ) (n : ℕ) (t new : List Entry) (paths : List (List ℕ)) → n ≡ length t
    → new ≡ with_paths t paths → paths ≡ map (λ e. moved_path from to e.path) t
    → take n (new ++ drop (length new) t) ≡ renamed from to t
renamed-written from to n t new paths len is are =
    ap (λ k. take k (new ++ drop (length new) t)) (len ∙ sym (ap length is ∙ length-with_paths t paths))
    ∙ take-append_seam new (drop (length new) t) ∙ is ∙ ap (λ ps. with_paths t ps) are ∙ renamed-by_paths from to t
