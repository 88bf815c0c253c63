-- Rows that move as their places do.
use Rattle.std.proofs.Common.{◌≡◌, ℕ, true, false, ◌+◌, ◌-◌, ◌*◌, ◌<◌, ◌≤◌, ◌&&◌, nat_lt, Bool, List, refl, ap, ◌∙◌, arith}
use Rattle.std.proofs.Common.{if◌then◌else◌, nat_le}
use Rattle.std.proofs.lemmas.Bool.Decides.{nat_tests}
use Rattle.rtui_grid.specs.Items.{item, item_at}
use Rattle.rtui_grid.proofs.PlaceLemmas.{rows_join, place_before, place_from}

module _ {T : Type 0} (d : T) (w x : ℕ) (x_in : x < w) (old new : List T) (a e n : ℕ) where
  -- a place of a row that has another one's element, or the blank one
  by_places : (y z : ℕ) (inside has : Bool) (from : ℕ) → inside ≡ (nat_le a y && nat_lt y e) → (has ≡ true → from ≡ z * w + x)
      → item d new (y * w + x) ≡ (if inside then (if has then item d old from else d) else item d old (y * w + x))
      → item_at d w new x y ≡ (if nat_le a y && nat_lt y e then (if has then item_at d w old x z else d) else item_at d w old x y)
  by_places y z inside has from part place moved = rw part at moved ∙ either (nat_le a y && nat_lt y e) has place
    where
      either : (p q : Bool) → (q ≡ true → from ≡ z * w + x)
          → (if p then (if q then item d old from else d) else item d old (y * w + x)) ≡
          (if p then (if q then item_at d w old x z else d) else item_at d w old x y)
      either true true is = ap (item d old) (is refl)
      either true false is = refl
      either false q is = refl

  region : (y : ℕ) → (nat_le (a * w) (y * w + x) && nat_lt (y * w + x) (e * w)) ≡ (nat_le a y && nat_lt y e)
  region y = rw (place_before w x x_in y e, place_from w x x_in y a) refl

  -- the rows of a region that went up by n
  pub rows_raised : ((k : ℕ) → item d new k ≡ (if nat_le (a * w) k && nat_lt k (e * w) then (if nat_lt (k + n * w)
      (e * w) then item d old (k + n * w) else d) else item d old k))
      → (y : ℕ) → item_at d w new x y ≡
      (if nat_le a y && nat_lt y e then (if nat_lt (y + n) e then item_at d w old x (y + n) else d) else item_at d w old x y)
  rows_raised moved y =
      let next : y * w + x + n * w ≡ (y + n) * w + x = grind arith in
      let has : nat_lt (y * w + x + n * w) (e * w) ≡ nat_lt (y + n) e = ap (λ k. nat_lt k (e * w)) next
      ∙ place_before w x x_in (y + n) e in
      by_places y (y + n) _ (nat_lt (y + n) e) _ (region y) (λ _. next) (rw has at (moved (y * w + x)))

  -- and of one that went down
  pub rows_lowered : ((k : ℕ) → item d new k ≡ (if nat_le (a * w) k && nat_lt k (e * w) then
      (if nat_le (a * w + n * w) k then item d old (k - n * w) else d) else item d old k))
      → (y : ℕ) → item_at d w new x y ≡
      (if nat_le a y && nat_lt y e then (if nat_le (a + n) y then item_at d w old x (y - n) else d) else item_at d w old x y)
  rows_lowered moved y =
      let has : nat_le (a * w + n * w) (y * w + x) ≡ nat_le (a + n) y = ap (λ k. nat_le k (y * w + x)) (rows_join w a n)
      ∙ place_from w x x_in y (a + n) in
      by_places y (y - n) _ (nat_le (a + n) y) _ (region y)
      (λ kept.
      let above : a + n ≤ y = grind (arith, nat_tests) in
      let whole : y - n + n ≡ y = omega arith in
      let q : (y - n) * w + n * w ≡ y * w = rows_join w (y - n) n ∙ ap (λ m. m * w) whole in omega (arith, q))
      (rw has at (moved (y * w + x)))
