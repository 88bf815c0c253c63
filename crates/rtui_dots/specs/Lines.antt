-- A line: which dots it has.
use Rattle.std.specs.Prelude.{ℕ, ◌+◌, ◌-◌, ◌*◌, ◌/◌, Bool, true, false, nat_lt, List, [], ◌∷◌, if◌then◌else◌}
use Prim.Native.Nat.{zero, suc}
use Rattle.std.specs.Int.{abs_diff}
use Rattle.rtui_style.specs.declared.color.Color.{Color}
use Rattle.rtui_dots.specs.{declared.line.Run.Run}
use Rattle.rtui_dots.specs.Grids.{Dot}

-- A run: from its first place a line goes along its longer side, a column or a row each step, and goes across
-- by its shorter one.

-- how far across it has gone after k steps along: the nearest whole number to its share, the less of two as
-- near
abbrev pub gone_after : ℕ → ℕ → ℕ → ℕ
gone_after long short k = (2 * short * k + (long - 1)) / (2 * long)

-- the place across of one that has gone so far
abbrev pub across_at : Run → ℕ → ℕ
across_at r gone = if r.is_back then r.across - gone else r.across + gone

-- the dot at a place along and a place across
abbrev pub dot_by : Bool → ℕ → ℕ → Color → Dot
dot_by flat along across color =
    if flat then record { x = along; y = across; color = color } else record {
      x = across;
      y = along;
      color = color;
    }

-- a run's dot after k steps
abbrev pub run_dot : Run → Color → ℕ → Dot
run_dot r color k = dot_by r.is_flat (r.along + k) (across_at r (gone_after r.long r.short k)) color

-- the dots of n steps, after the first k
abbrev pub dots_from : (ℕ → Dot) → ℕ → ℕ → List Dot
dots_from f k zero = []
dots_from f k (suc n) = f k ∷ dots_from f (k + 1) n

abbrev pub run_dots : Run → Color → List Dot
run_dots r color = dots_from (run_dot r color) 0 (r.long + 1)

-- the run from one end to another one, which isn't before it along the longer side
abbrev pub run_on : Bool → ℕ → ℕ → ℕ → ℕ → Run
run_on flat along across along' across' = record {
  is_flat = flat;
  along = along;
  across = across;
  long = along' - along;
  short = abs_diff across across';
  is_back = nat_lt across' across;
}

-- the run between two ends, from the left or from the top
abbrev pub run_between : Bool → ℕ → ℕ → ℕ → ℕ → Run
run_between flat along across along' across' =
    if nat_lt along' along then run_on flat along' across' along across else run_on flat along across along'
    across'

-- the run of a line between two dots: along the columns, if there are more of them than rows
abbrev pub run_of : ℕ → ℕ → ℕ → ℕ → Run
run_of x y x' y' =
    if nat_lt (abs_diff y y') (abs_diff x x') then run_between true x y x' y' else run_between false y x y' x'
