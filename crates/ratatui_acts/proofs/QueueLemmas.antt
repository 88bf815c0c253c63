-- Events that lie between two places.
use Rattle.std.proofs.Common.{◌≡◌, ℕ, ◌+◌, ◌-◌, ◌<◌, ◌≤◌, List, [], ◌∷◌, ◌++◌, length, drop, take, get_or, set, sym, ap, ◌∙◌, arith, add-one}
use Rattle.std.proofs.Math.Seq.{drop-cons}
use Rattle.std.proofs.lemmas.List.{length-take-le, length-drop, take_more_set, drop-append-le, drop-drop, drop-take, take-append-le, drop_all, get_or-take}

module _ {X : Type 0} (places : List X) where
  -- how many there are
  pub within_length : (from to : ℕ) → from ≤ to → to ≤ length places → to - from ≡ length (drop from (take to places))
  within_length from to order inside =
      let all = length-take-le to places inside in
      let some = length-drop from (take to places) in
      omega (arith, all, some, order)

  -- none
  pub within_none : (from to : ℕ) → to ≤ from → to ≤ length places → drop from (take to places) ≡ []
  within_none from to order inside =
      let all = length-take-le to places inside in drop_all from (take to places) (omega (arith, all, order))

  -- the first one, and the others
  pub within_first : (from to : ℕ) (d : X) → from < to → to ≤ length places
      → drop from (take to places) ≡ get_or places from d ∷ drop (from + 1) (take to places)
  within_first from to d some inside =
      let all = length-take-le to places inside in
      rw add-one (drop-cons (take to places) from d (omega (arith, all, some)))
      ∙ ap (λ (x : X). x ∷ drop (from + 1) (take to places)) (get_or-take to places from d some)

  pub within_rest : (from to : ℕ) → drop (from + 1) (take to places) ≡ drop 1 (drop from (take to places))
  within_rest from to = sym (drop-drop 1 from (take to places))

  -- one more at the end
  pub within_more : (from to : ℕ) (x : X) → from ≤ to → to < length places
      → drop from (take (to + 1) (set places to x)) ≡ drop from (take to places) ++ x ∷ []
  within_more from to x order inside =
      let all = length-take-le to places (omega (arith, inside)) in
      ap (λ (l : List X). drop from l) (take_more_set places to x inside)
      ∙ drop-append-le from (take to places) (x ∷ []) (omega (arith, all, order))

  -- moved to the front
  pub within_moved : (from to count : ℕ) (after : List X) → count + from ≡ to → to ≤ length places
      → take count (drop from places ++ after) ≡ drop from (take to places)
  within_moved from to count after sum inside =
      let some = length-drop from places in
      take-append-le count (drop from places) after (omega (arith, some, sum, inside))
      ∙ sym (drop-take from count places)
      ∙ ap (λ (n : ℕ). drop from (take n places)) (omega (arith, sum))
