use Rattle.std.proofs.Common.{◌≡◌, ◌<◌, slice_index, MatchOption}
use Rattle.rtui_split.specs.{Inner.Slots.wishes_of, Inner.Slots.heights_of, Inner.Slots.sizes_of, Ragged.Run, Ragged.IsRunOf}
use Rattle.rtui_split.specs.{Inner.Runs.as_run, Inner.Runs.IsFirstRun}
use Rattle.rtui_split.proofs.smooth.next_run.Given as goal

abbrev pub invariant-loop-first : goal.invariant-loop-first
invariant-loop-first l = MatchOption l.best
    ((r : Run) → IsRunOf (wishes_of l.turn l.slots) r → r.first < l.first
    → slice_index (sizes_of l.slots) r.first ≡ r.height → ⊥)
    (λ r. IsFirstRun (wishes_of l.turn l.slots) (heights_of l.turn l.slots) (sizes_of l.slots) l.first
    (as_run r))
