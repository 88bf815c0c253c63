-- The rows above, and what a scrolled region leaves.
use Rattle.std.proofs.Common.{◌≡◌, ℕ, ◌+◌, ◌-◌, ◌<◌, ◌≤◌, ◌++◌, min, nat_lt, sym, ap, ◌∙◌, arith}
use Rattle.std.proofs.lemmas.Bool.Decides.{nat_tests}
use Rattle.rtui_cell.specs.Look.{empty_look}
use Rattle.rtui_backend.specs.Screen.{Screen, seen, row_of, rows_above, Scrolls, upper_part, ScrollsUp, ScrollsDown}
use Rattle.rtui_backend.proofs.ScrollLemmas.{above_kept}
use Rattle.rtui_grid.proofs.RangeLemmas.{map_same}

-- the rows above a row of a screen's upper part
pub above_upper : (s : Screen) (b e : ℕ) → e ≤ b → e ≤ s.height → rows_above (upper_part b s) e ≡ rows_above s e
above_upper s b e below inside =
    ap (λ rows. s.history ++ rows) (map_same (row_of (upper_part b s)) (row_of s) 0 e
    (λ y _ y_in. map_same (λ x. seen (upper_part b s) x y) (λ x. seen s x y) 0 s.width (λ x _ x_in. grind (arith, nat_tests))))

module _ {b n : ℕ} {r s : Screen} (some : 0 < b) (fits : b ≤ r.height) (up : ScrollsUp 0 b n r s) where
  -- a region that begins with the first row is a screen of its own
  pub scrolls_upper : Scrolls (upper_part b r) n (upper_part b s)
  scrolls_upper =
      let rows : nat_lt 0 (min b r.height) ≡ nat_lt 0 b = grind (arith, nat_tests) in
      record {
        history = up.history ∙ grind (arith, nat_tests);
        width = up.width;
        height = ap (min b) up.height;
        grid = λ x y x_in y_in. up.grid x y x_in (omega arith) ∙ grind (arith, nat_tests);
        visible = up.visible;
        written = up.written;
      }

  -- what was above the region's end is above where it went
  pub above_scrolled : n ≤ b → rows_above s (b - n) ≡ rows_above r b
  above_scrolled le =
      let back : n + (b - n) ≡ b = omega arith in
      sym (above_upper s b (b - n) (omega arith) (omega (arith, up.height)))
      ∙ above_kept scrolls_upper (b - n)
      ∙ ap (rows_above (upper_part b r)) back
      ∙ above_upper r b b (omega arith) fits

  -- the rows that come in are blank
  pub blank_scrolled : n ≤ b → (x y : ℕ) → x < r.width → y < n → s.grid x (b - n + y) ≡ empty_look
  blank_scrolled le x y x_in y_in = up.grid x (b - n + y) x_in (omega arith) ∙ grind (arith, nat_tests)

  -- and those below it stay
  pub below_scrolled : (x y : ℕ) → x < r.width → y < r.height → b ≤ y → s.grid x y ≡ r.grid x y
  below_scrolled x y x_in y_in below = up.grid x y x_in y_in ∙ grind (arith, nat_tests)

module _ {a b n : ℕ} {r s : Screen} (down : ScrollsDown a b n r s) where
  pub above_lowered : (x y : ℕ) → x < r.width → y < r.height → y < a → s.grid x y ≡ r.grid x y
  above_lowered x y x_in y_in above = down.grid x y x_in y_in ∙ grind (arith, nat_tests)

  pub blank_lowered : a + n ≤ b → b ≤ r.height → (x y : ℕ) → x < r.width → y < n → s.grid x (a + y) ≡ empty_look
  blank_lowered inside fits x y x_in y_in = down.grid x (a + y) x_in (omega arith) ∙ grind (arith, nat_tests)

  pub moved_lowered : b ≤ r.height → (x y : ℕ) → x < r.width → a + n + y < b → s.grid x (a + n + y) ≡ r.grid x (a + y)
  moved_lowered fits x y x_in y_in =
      let back : a + n + y - n ≡ a + y = omega arith in
      down.grid x (a + n + y) x_in (omega arith) ∙ rw back (grind (arith, nat_tests))

  pub below_lowered : (x y : ℕ) → x < r.width → y < r.height → b ≤ y → s.grid x y ≡ r.grid x y
  below_lowered x y x_in y_in below = down.grid x y x_in y_in ∙ grind (arith, nat_tests)
