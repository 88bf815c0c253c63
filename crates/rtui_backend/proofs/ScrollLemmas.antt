-- The rows above a row, and what a scroll does to them.
use Rattle.std.proofs.Common.{◌≡◌, ℕ, ◌+◌, ◌++◌, ◌<◌, map, sym, ap, ◌∙◌, arith, append_assoc, inl, inr}
use Rattle.std.proofs.lemmas.{Bool.cases_lt, Bool.Decides.nat_tests}
use Rattle.std.specs.List.{range_with_len}
use Rattle.rtui_backend.specs.Screen.{Screen, seen, row_of, rows_above, Scrolls}
use Rattle.rtui_grid.proofs.RangeLemmas.{map_same, places_split}

-- what is seen after a scroll is what was seen further below
seen_after : {r s : Screen} {k : ℕ} → Scrolls r k s → (a b : ℕ) → a < r.width → seen s a b ≡ seen r a (b + k)
seen_after {r} {s} {k} p a b a_in = elim (cases_lt b r.height) [
  | inl inside ↦ let e : seen s a b ≡ s.grid a b = grind (arith, nat_tests, p.height) in e ∙ p.grid a b a_in inside
  | inr past ↦ grind (arith, nat_tests, p.height)
]

row_after : {r s : Screen} {k : ℕ} → Scrolls r k s → (b : ℕ) → row_of s b ≡ row_of r (b + k)
row_after {r} {s} {k} p b = rw p.width (map_same (λ a. seen s a b) (λ a. seen r a (b + k)) 0 r.width
    (λ a _ a_in. seen_after p a b (omega arith)))

-- a scroll keeps the rows above what moves up with it
pub above_kept : {r s : Screen} {k : ℕ} → Scrolls r k s → (e : ℕ) → rows_above s e ≡ rows_above r (k + e)
above_kept {r} {s} {k} p e =
    ap (λ h. h ++ map (row_of s) (range_with_len 0 e)) p.history
    ∙ append_assoc r.history _ _
    ∙ ap (λ rows. r.history ++ (map (row_of r) (range_with_len 0 k) ++ rows))
    (map_same (row_of s) (λ b. row_of r (b + k)) 0 e (λ b _ _. row_after p b))
    ∙ ap (λ xs. r.history ++ xs) (sym (places_split (row_of r) k e))

-- where the history and the rows before row e stay, the rows above row e do
pub above_same : (r s : Screen) (e : ℕ) → s.history ≡ r.history → s.width ≡ r.width → s.height ≡ r.height
    → ((a b : ℕ) → a < r.width → b < r.height → b < e → s.grid a b ≡ r.grid a b) → rows_above s e ≡ rows_above r e
above_same r s e history width height same =
    ap (λ h. h ++ map (row_of s) (range_with_len 0 e)) history
    ∙ ap (λ rows. r.history ++ rows) (map_same (row_of s) (row_of r) 0 e (λ b _ low.
    rw width (map_same (λ a. seen s a b) (λ a. seen r a b) 0 r.width (λ a _ a_in. column a b (omega arith) (omega arith)))))
  where
    column : (a b : ℕ) → a < r.width → b < e → seen s a b ≡ seen r a b
    column a b a_in low = elim (cases_lt b r.height) [
      | inl inside ↦ let at : s.grid a b ≡ r.grid a b = same a b a_in inside low in grind (arith, nat_tests, height)
      | inr past ↦ grind (arith, nat_tests, height)
    ]
