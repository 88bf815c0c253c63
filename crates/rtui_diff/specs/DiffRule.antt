-- Which places of two frames are given, column by column.
use Rattle.std.specs.Prelude.{ℕ, zero, suc, ◌+◌, ◌-◌, Bool, true, false, ◌&&◌, ◌||◌, nat_lt, not}
use Rattle.std.specs.Prelude.{if◌then◌else◌, List, [], ◌∷◌}
use Rattle.rtui_cell.specs.{declared.cell.Cell.Cell, Cell.width_of, Cell.is_skipped, Equality.is_same}
use Rattle.rtui_cell.specs.{Equality.is_same_symbol}
use Rattle.rtui_diff.specs.Cells.{has_fe0f, is_forced, is_always, shows_on_blank, cell}

-- how many columns are stepped over, how many are visited after the present one is done with, and whether the
-- visited ones are given at all events
pub record Walk : Type 0 where
  pub over : ℕ
  pub left : ℕ
  pub force : Bool

abbrev pub start : Walk
start = record { over = 0; left = 0; force = false }

-- whether a visited cell is given
abbrev pub gives_visited : Bool → Cell → Cell → Bool
gives_visited force p n = not (is_skipped n) && (force || not (is_same_symbol p n))

-- whether any other cell is given that is not stepped over
abbrev pub gives_other : Cell → Cell → Bool
gives_other p n = not (is_skipped n) && (is_always n || not (is_same p n))

abbrev pub gives_at : ℕ → ℕ → Bool → Cell → Cell → Bool
gives_at (suc over) left force p n = false
gives_at zero (suc left) force p n = gives_visited force p n
gives_at zero zero force p n = gives_other p n

abbrev pub step_other : Cell → Cell → Walk
step_other p n =
    if is_skipped n then start
    else (if is_forced n || not (gives_other p n) || (nat_lt 1 (width_of n) && not (has_fe0f n))
    then record { over = width_of n - 1; left = 0; force = false }
    else (if nat_lt 1 (width_of n) then record { over = 0; left = width_of n - 1; force = false }
    else (if nat_lt (width_of n) (width_of p) && shows_on_blank p then record {
      over = 0;
      left = width_of p - 1;
      force = true;
    }
    else start)))

abbrev pub step_at : ℕ → ℕ → Bool → Cell → Cell → Walk
step_at (suc over) left force p n = record { over = over; left = left - 1; force = force }
step_at zero (suc left) force p n = record { over = width_of n - 1; left = left; force = force }
step_at zero zero force p n = step_other p n

abbrev pub gives : Walk → Cell → Cell → Bool
gives s p n = gives_at s.over s.left s.force p n

abbrev pub step : Walk → Cell → Cell → Walk
step s p n = step_at s.over s.left s.force p n

abbrev pub give : Bool → ℕ → List ℕ → List ℕ
give true i is = i ∷ is
give false i is = is

-- the places that are given of the k places from i on
unfoldable pub given : List Cell → List Cell → ℕ → Walk → ℕ → List ℕ
given ps ns zero s i = []
given ps ns (suc k) s i = give (gives s (cell ps i) (cell ns i)) i
    (given ps ns k (step s (cell ps i) (cell ns i)) (i + 1))
