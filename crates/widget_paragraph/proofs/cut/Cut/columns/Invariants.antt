use Rattle.std.proofs.Common.{◌≡◌, ◌+◌, length}
use Rattle.widget_paragraph.specs.{Inner.left_of_cut, Inner.IsCut, Reflow.columns_taken}
use Rattle.widget_paragraph.proofs.cut.Cut.columns.Given as goal

abbrev pub invariant-loop : goal.invariant-loop
invariant-loop l = record {
  cut : IsCut l.cut;
  all : l.cut.used + columns_taken (left_of_cut l.cut) ≡ l.fn.self.used + columns_taken (left_of_cut l.fn.self);
}

abbrev pub decreases-loop : goal.decreases-loop
decreases-loop l = length (left_of_cut l.cut)
