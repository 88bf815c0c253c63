-- Words that only private contracts use: they follow the code.
use Rattle.std.specs.Prelude.{ℕ, ◌+◌, ◌<◌, ◌≤◌, Bool, not, IsTrue, if◌then◌else◌}
use Rattle.rtui_style.specs.declared.color.Color.TheVariants.{Reset}
use Rattle.rtui_dots.specs.declared.{scale.Scale.Scale, line.Run.Run}
use Rattle.rtui_dots.specs.Grids.{far, dot_columns, dot_rows, has_dot}
use Rattle.rtui_dots.specs.Lines.{run_dot, across_at}

-- how many places a grid has along its rows, or along its columns
abbrev pub places_along : Bool → Scale → ℕ
places_along flat s = if flat then dot_columns s else dot_rows s

-- a grid has the dots of a run's steps from one on before another one
abbrev pub HasSteps : Scale → Run → ℕ → ℕ → Type 0
HasSteps s r first end =
    (k : ℕ) → first ≤ k → k < end → IsTrue (has_dot s (run_dot r Reset k).x (run_dot r Reset k).y)

-- a grid has the places along of these steps
pub record HasAlong (s : Scale) (r : Run) (first end : ℕ) : Type 0 where
  pub from : far ≤ r.along + first
  pub to : r.along + end ≤ far + places_along r.is_flat s

-- a grid has each place across at which a run comes
abbrev pub HasAcross : Scale → Run → Type 0
HasAcross s r = (gone : ℕ) → gone ≤ r.short
    → (far ≤ across_at r gone) × (across_at r gone < far + places_along (not r.is_flat) s)
