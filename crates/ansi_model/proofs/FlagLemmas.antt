-- Flags that move with their rows.
use Rattle.std.proofs.Common.{◌≡◌, ℕ, true, false, ◌+◌, ◌*◌, ◌<◌, ◌&&◌, nat_lt, Bool, List, length, refl, sym, ap, ◌∙◌, arith}
use Rattle.std.proofs.Common.{if◌then◌else◌, nat_le}
use Rattle.std.proofs.lemmas.{Nat.mul-add-lt, Bool.Decides.nat_tests}
use Rattle.rtui_grid.proofs.PlaceLemmas.{by_rows}
use Rattle.ansi_model.specs.{Columns.Columns, Columns.is_continuation, Columns.blank_column, Emulator.columns_moved, Flags.flag}
use Rattle.ansi_model.specs.{Flags.AreContinuations}
use Rattle.ratatui_core.specs.Backend.{Motion, moved_by, is_cleared, AfterCursor, BeforeCursor, UntilNewLine}
use Rattle.ratatui_core.proofs.BackendLemmas.{moved-through}

-- flags that move as the columns do
module _ (w h : ℕ) (old new : List Bool) (c : Columns) (m : Motion) (inside : (y : ℕ) → y < h → m.has_source y ≡ true
    → m.source y < h) (continuations : AreContinuations w h old c) where
  pub flags-moved : length new ≡ length old
      → ((x y : ℕ) → x < w → flag new (y * w + x) ≡ moved_by m false (λ a b. flag old (b * w + a)) x y)
      → AreContinuations w h new (columns_moved m c)
  flags-moved same moved = record {
    count = same ∙ continuations.count;
    each = λ a b a_in b_in. moved a b a_in ∙ either a b a_in b_in (m.part a b) (m.has_source b) (inside b b_in)
        ∙ sym (moved-through m blank_column c a b is_continuation);
  }
    where
      either : (a b : ℕ) → a < w → b < h → (p q : Bool) → (q ≡ true → m.source b < h)
          → (if p then (if q then flag old (m.source b * w + a) else false) else flag old (b * w + a)) ≡
          (if p then (if q then is_continuation (c a (m.source b)) else false) else is_continuation (c a b))
      either a b a_in b_in true true within = continuations.each a (m.source b) a_in (within refl)
      either a b a_in b_in true false within = refl
      either a b a_in b_in false q within = continuations.each a b a_in b_in

-- columns that are the same have the same flags
pub AreContinuations-along : (w h : ℕ) (flags : List Bool) (c d : Columns) → ((a b : ℕ) → d a b ≡ c a b)
    → AreContinuations w h flags c → AreContinuations w h flags d
AreContinuations-along w h flags c d same continuations = record {
  count = continuations.count;
  each = λ a b a_in b_in. continuations.each a b a_in b_in ∙ ap is_continuation (sym (same a b));
}

-- which places a part takes
module _ (w h x y a b : ℕ) (a_in : a < w) (b_in : b < h) (x_in : x < w) (y_in : y < h) where
  pub places_after : (nat_le (y * w + x) (b * w + a) && nat_lt (b * w + a) (w * h)) ≡ is_cleared AfterCursor x y a b
  places_after = let inside = mul-add-lt b w a h b_in a_in in by_rows _ w b y (λ p q. grind (arith, nat_tests))
      (λ p q. grind (arith, nat_tests)) (λ e. grind (arith, nat_tests))

  pub places_before : (nat_le 0 (b * w + a) && nat_lt (b * w + a) (y * w + x + 1)) ≡ is_cleared BeforeCursor x y a b
  places_before = by_rows _ w b y (λ p q. grind (arith, nat_tests)) (λ p q. grind (arith, nat_tests))
      (λ e. grind (arith, nat_tests))

  pub places_line_end : (nat_le (y * w + x) (b * w + a) && nat_lt (b * w + a) (y * w + w)) ≡ is_cleared UntilNewLine x y a b
  places_line_end = by_rows _ w b y (λ p q. grind (arith, nat_tests)) (λ p q. grind (arith, nat_tests))
      (λ e. grind (arith, nat_tests))
