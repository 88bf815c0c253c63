use Rattle.std.proofs.Common.{map}
use Rattle.ratatui_core.specs.Buffer.{update_by}
use Rattle.ratatui_ansi.specs.Inner.Draw.{KeepsDraw, DrawsUpdates}
use Rattle.ratatui_ansi.proofs.draw.Draw.draw_all.Given as goal

abbrev pub invariant-loop-x : goal.invariant-loop-x
invariant-loop-x g l = record {
  can_next : (goal.iterator-loop-x g).can_next l.x-iterator;
  is_finite : (goal.iterator-loop-x g).is_finite l.x-iterator;
  keeps : KeepsDraw l.fn.self l.self;
  draws : DrawsUpdates l.fn.self (map (update_by g.C.AsCell.cell) l.yielded) l.self;
}
