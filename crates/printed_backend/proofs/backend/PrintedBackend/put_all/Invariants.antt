use Rattle.std.proofs.Common.{◌≡◌, map}
use Rattle.rtui_cell.specs.Grid.{update_by}
use Rattle.rtui_backend.specs.{Screen.Draws, Screen.cursor_of}
use Rattle.printed_backend.specs.Printed.{shown_on, failed_calls}
use Rattle.printed_backend.proofs.backend.PrintedBackend.put_all.Given as goal

abbrev pub invariant-loop-x : goal.invariant-loop-x
invariant-loop-x g l = record {
  can_next : (goal.iterator-loop-x g).can_next l.x-iterator;
  is_finite : (goal.iterator-loop-x g).is_finite l.x-iterator;
  drawn : Draws (shown_on l.initial.self) (map (update_by g.C.AsCell.cell) l.yielded) (shown_on l.self);
  cursor : cursor_of (shown_on l.self) ≡ cursor_of (shown_on l.initial.self);
  failures : failed_calls l.self ≡ failed_calls l.initial.self;
}
