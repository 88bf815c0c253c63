-- Elements that are written, or moved.
use Rattle.std.proofs.Common.{◌≡◌, ℕ, ◌+◌, ◌-◌, ◌<◌, ◌≤◌, ◌++◌, nat_eq, if◌then◌else◌, List, length, take, drop, set, sym, ap}
use Rattle.std.proofs.Common.{◌∙◌, arith, inl, inr, length-drop, length-take, map, true, false}
use Rattle.std.proofs.lemmas.{Bool.cases_lt, Grind.common_steps, Bool.Decides.nat_tests}
use Rattle.std.proofs.lemmas.List.{get_or_append_left, get_or-append_right, get_or-take, get_or-drop, get_or_past, ext_get_or}
use Rattle.std.proofs.lemmas.List.{length-map, get_or-map}
use Rattle.rtui_grid.specs.Items.{item}

module _ {T : Type 0} (d : T) where
  -- an element that is written, and the others as they were
  pub item-set : (xs : List T) (i j : ℕ) (x : T) → i < length xs → item d (set xs i x) j ≡ if nat_eq j i then x else item d xs j
  item-set xs i j x inside = grind (arith, common_steps)

  -- past the end all is blank
  pub past_end : (xs : List T) (k : ℕ) → length xs ≤ k → item d xs k ≡ d
  past_end xs k past = get_or_past xs k d past

  -- elements that were made blank and moved to the end
  pub rotated : (xs : List T) (n : ℕ) → n ≤ length xs → ((j : ℕ) → j < n → item d xs j ≡ d) → (k : ℕ)
      → item d (drop n xs ++ take n xs) k ≡ item d xs (k + n)
  rotated xs n fits blanked k = elim (cases_lt k (length xs - n)) [
    | inl before ↦
        let len : k < length (drop n xs) = rw length-drop before in
        get_or_append_left (drop n xs) (take n xs) d k len ∙ get_or-drop n xs k d ∙ ap (λ i. item d xs i) (omega arith)
    | inr after ↦
        get_or-append_right (drop n xs) (take n xs) (length xs - n) k d (length-drop n xs) after
        ∙ moved (k - (length xs - n))
        ∙ sym (past_end xs (k + n) (omega arith))
  ]
    where
      moved : (j : ℕ) → item d (take n xs) j ≡ d
      moved j = elim (cases_lt j n) [
        | inl inside ↦ get_or-take n xs j d inside ∙ blanked j inside
        | inr past ↦ past_end (take n xs) j (simp length-take (omega arith))
      ]

  -- a list whose elements were changed one by one
  pub mapped : (f : T → T) (old new : List T) → length new ≡ length old
      → ((k : ℕ) → k < length old → item d new k ≡ f (item d old k)) → new ≡ map f old
  mapped f old new count each =
      ext_get_or d new (map f old) (count ∙ sym (length-map old f)) (λ k k_in. let inside : k < length old = omega arith in
      each k inside ∙ sym (get_or-map f old k d d inside))

  -- what holds of the elements before a place, and of the one that is written there
  pub set-below : (P : T → Type 0) (xs : List T) (i : ℕ) (x : T) → i < length xs → P x → ((j : ℕ) → j < i → P (item d xs j))
      → (j : ℕ) → j < i + 1 → P (item d (set xs i x) j)
  set-below P xs i x inside here before j low = rw (item-set xs i j x inside) (elim (cases_lt j i) [
    | inl lower ↦ let no : nat_eq j i ≡ false = grind (arith, nat_tests) in rw no (before j lower)
    | inr upper ↦ let yes : nat_eq j i ≡ true = grind (arith, nat_tests) in rw yes here
  ])
