use Rattle.std.proofs.Common.{◌≡◌, map}
use Rattle.rtui_cell.specs.Grid.{update_by}
use Rattle.rtui_backend.specs.{Screen.Draws, Screen.cursor_of, TestBackend.screen_of, TestBackend.failures_of}
use Rattle.rtui_backend.specs.{TestBackend.told_after}
use Rattle.rtui_backend.proofs.test.TestBackend.put_all.Given as goal

abbrev pub invariant-loop-x : goal.invariant-loop-x
invariant-loop-x g l = record {
  can_next : (goal.iterator-loop-x g).can_next l.x-iterator;
  is_finite : (goal.iterator-loop-x g).is_finite l.x-iterator;
  drawn : Draws (screen_of l.initial.self) (map (update_by g.C.AsCell.cell) l.yielded) (screen_of l.self);
  cursor : cursor_of (screen_of l.self) ≡ cursor_of (screen_of l.initial.self);
  failures : failures_of l.self ≡ failures_of l.initial.self;
  told : told_after l.self ≡ told_after l.initial.self;
}
