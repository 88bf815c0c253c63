-- What cosines are.
use Rattle.std.specs.Prelude.{◌≡◌, ◌≤◌, ◌<◌, ◌+◌, ◌-◌, ◌*◌, ℕ, List, slice_index}
use Rattle.rtui_dots.specs.Circles.{billion}

-- how far apart two numbers are
abbrev pub apart : ℕ → ℕ → ℕ
apart m n = (m - n) + (n - m)

-- the cosines of 0 to 90 degrees in billionths: 1 at first, 0 at last and more than that between, and
-- cos (a + b) + cos (a - b) is 2 cos a cos b, but for what rounding takes
pub record AreCosines (table : List ℕ) : Type 0 where
  pub first : slice_index table 0 ≡ billion
  pub last : slice_index table 90 ≡ 0
  pub between : (d : ℕ) → d < 90 → 0 < slice_index table d
  pub sums : (a b : ℕ) → b ≤ a → a + b ≤ 90
      → apart ((slice_index table (a + b) + slice_index table (a - b)) * billion)
      (2 * slice_index table a * slice_index table b) ≤ 3 * billion
