-- Words that only private contracts use: the runs of the code, and which of them rises next.
use Rattle.std.specs.Prelude.{ℕ, ◌≡◌, ◌+◌, ◌<◌, ◌≤◌, List, slice_index}
use Rattle.rtui_split.specs.declared.smooth.Run as coded
use Rattle.rtui_split.specs.Ragged.{Run, IsRunOf, ComesNoLater, growth_before, growth_after}

-- a run of the code
abbrev pub as_run : coded.Run → Run
as_run r = record { first = r.first; after = r.after; height = r.height }

-- the same run at another height
abbrev pub at_height : Run → ℕ → Run
at_height r h = record { first = r.first; after = r.after; height = h }

-- a run begins at this place, if it is at this height
abbrev pub StartsAt : List ℕ → ℕ → ℕ → Type 0
StartsAt wishes height i = (height < slice_index wishes i)
    × ((j : ℕ) → j + 1 ≡ i → slice_index wishes j ≤ height)

-- a run whose first part stands at its height, and no such run comes before it, of those that begin before a
-- place
pub record IsFirstRun (wishes standing shares : List ℕ) (to : ℕ) (r : Run) : Type 0 where
  pub run : IsRunOf wishes r
  pub stands : slice_index shares r.first ≡ r.height
  pub first : (s : Run) → IsRunOf wishes s → s.first < to → slice_index shares s.first ≡ s.height
      → ComesNoLater standing r s

-- below this height it is a run with the same neighbours
abbrev pub KeepsUpTo : List ℕ → List ℕ → Run → ℕ → Type 0
KeepsUpTo wishes standing r top = (h : ℕ) → r.height ≤ h → h < top → IsRunOf wishes (at_height r h)
    × (growth_before standing (at_height r h) ≡ growth_before standing r)
    × (growth_after standing (at_height r h) ≡ growth_after standing r)
