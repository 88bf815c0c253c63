-- What a diff promises.
use Rattle.std.specs.Prelude.{◌≡◌, ℕ, ◌*◌, List, map, All}
use Rattle.rtui_cell.specs.{declared.cell.Cell.Cell, Grid.Update}
use Rattle.rtui_diff.specs.{Settled.IsSettled, Shows.Replays}
use Rattle.rtui_diff.specs.Updates.{update_at, updates, Rises, IsCellOfNext}
use Rattle.rtui_diff.specs.Completeness.{AreNarrow, differing, IsMinimal, IsComplete}

-- The updates from prev to next, over w columns and h rows with their corner at (x0, y0): those of the diff's
-- rule, in order, each with next's own cell, and in frames without wide cells just what differs. Those
-- between two settled frames turn a screen which shows prev into one that shows next, give nothing that it
-- has no need of, and all that a screen may have left after.
pub record IsDiff (x0 y0 w h : ℕ) (prev next : List Cell) (us : List Update) : Type 0 where
  pub walks : us ≡ updates x0 y0 w h prev next
  pub rises : Rises us
  pub own : All (IsCellOfNext x0 y0 w h next) us
  pub narrow : AreNarrow (w * h) prev next → us ≡ map (update_at x0 y0 w next) (differing prev next (w * h))
  pub replays : IsSettled w h prev → IsSettled w h next → Replays x0 y0 w h prev next us
  pub minimal : IsSettled w h prev → IsSettled w h next → IsMinimal x0 y0 w h prev next us
  pub complete : IsSettled w h prev → IsSettled w h next → IsComplete x0 y0 w h prev next us
