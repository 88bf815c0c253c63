-- One more row of a block.
use Rattle.std.proofs.Common.{◌≡◌, ℕ, ◌+◌, ◌-◌, ◌*◌, ◌<◌, ◌≤◌, if◌then◌else◌, List, sym, ap, subst, ◌∙◌, arith, inl, inr, true}
use Rattle.std.proofs.lemmas.{Bool.cases_lt, Bool.Decides.nat_tests}
use Rattle.rtui_grid.specs.{declared.block.Block.Block, Items.item, Items.item_at, Blocks.is_in_block, Blocks.HasBlock}
use Rattle.rtui_grid.proofs.PlaceLemmas.{by_rows}

-- the first rows of a block
abbrev pub front : Block → ℕ → Block
front k row = record k { rows = row }

module _ {T : Type 0} (d : T) (w stride row : ℕ) (k : Block) (others old now more given : List T) (fits : k.left + k.columns ≤ w)
    (h : HasBlock d w (front k row) stride others old now)
    (moved : (j : ℕ) → j < k.columns → item d more ((k.top + row) * w + k.left + j) ≡ item d given (row * stride + j))
    (before : (j : ℕ) → j < (k.top + row) * w + k.left → item d more j ≡ item d now j)
    (after : (j : ℕ) → (k.top + row) * w + k.left + k.columns ≤ j → item d more j ≡ item d now j)
    (left_over : (j : ℕ) → row * stride ≤ j → item d given j ≡ item d others j) where
  abbrev Shown : ℕ → ℕ → Type 0
  Shown a b = item_at d w more a b ≡ (if is_in_block (front k (row + 1)) a b then item_at d stride others (a - k.left)
      (b - k.top) else item_at d w old a b)

  in_row : (a : ℕ) → a < w → Shown a (k.top + row)
  in_row a lt =
      let former : item_at d w now a (k.top + row) ≡ item_at d w old a (k.top + row) = (let e = h.at a (k.top + row) lt in
      grind (arith, nat_tests)) in
      elim (cases_lt a k.left) [
        | inl left_of ↦ let e : item_at d w more a (k.top + row) ≡ item_at d w old a (k.top + row) =
            before ((k.top + row) * w + a) (omega arith) ∙ former in grind (arith, nat_tests)
        | inr from_left ↦ elim (cases_lt a (k.left + k.columns)) [
          | inl inside ↦
              let to : (k.top + row) * w + k.left + (a - k.left) ≡ (k.top + row) * w + a = omega arith in
              let here : k.top + row - k.top ≡ row = omega arith in
              let e : item_at d w more a (k.top + row) ≡ item_at d stride others (a - k.left) (k.top + row - k.top) =
              ap (item d more) (sym to) ∙ moved (a - k.left) (omega arith) ∙ left_over (row * stride + (a - k.left)) (omega arith)
              ∙ ap (item_at d stride others (a - k.left)) (sym here) in
              grind (arith, nat_tests)
          | inr right_of ↦ let e : item_at d w more a (k.top + row) ≡ item_at d w old a (k.top + row) =
              after ((k.top + row) * w + a) (omega arith) ∙ former in grind (arith, nat_tests)
        ]
      ]

  pub block-more : HasBlock d w (front k (row + 1)) stride others old more
  block-more = record {
    at = λ a b lt. by_rows _ w b (k.top + row)
        (λ above r. let e = before (b * w + a) (omega arith) in let f = h.at a b lt in grind (arith, nat_tests))
        (λ below r. let e = after (b * w + a) (omega arith) in let f = h.at a b lt in grind (arith, nat_tests))
        (λ same. subst (Shown a) (sym same) (in_row a lt));
  }

-- what lies in a block
pub in_block : (k : Block) (a b : ℕ) → is_in_block k a b ≡ true → (k.left ≤ a) × (a < k.left + k.columns) × (k.top ≤ b)
    × (b < k.top + k.rows)
in_block k a b t = (grind (arith, nat_tests), grind (arith, nat_tests), grind (arith, nat_tests), grind (arith, nat_tests))
