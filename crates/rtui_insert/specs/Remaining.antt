-- What a walk over lowered updates has still to give.
use Rattle.std.specs.Prelude.{ℕ, List, map}
use Rattle.rtui_cell.specs.Grid.{Update}
use Rattle.rtui_insert.specs.{Rows.lowered_update, declared.updates.ShiftedUpdates.ShiftedUpdates}

abbrev pub lowered_by : ℕ → List Update → List Update
lowered_by by us = map (lowered_update by) us

abbrev pub lowered_left : ShiftedUpdates → List Update
lowered_left l = lowered_by l.by l.updates
