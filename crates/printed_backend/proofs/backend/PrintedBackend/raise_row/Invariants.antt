use Rattle.std.proofs.Common.{◌≡◌, List}
use Rattle.rtui_cell.specs.Grid.{Update}
use Rattle.rtui_backend.specs.Screen.{Draws}
use Rattle.printed_backend.specs.Printed.{shown_on, failed_calls}
use Rattle.printed_backend.proofs.RaisingLemmas.{HasRaised}
use Rattle.printed_backend.proofs.backend.PrintedBackend.raise_row.Given as goal

abbrev pub invariant-loop-x : goal.invariant-loop-x
invariant-loop-x l = record {
  raised : HasRaised l.from l.end l.x (shown_on l.initial.self) (shown_on l.self);
  drawn : (us : List Update) × Draws (shown_on l.initial.self) us (shown_on l.self);
  failures : failed_calls l.self ≡ failed_calls l.initial.self;
  width : l.x-end ≡ (shown_on l.initial.self).width;
}
