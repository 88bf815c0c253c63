use Rattle.files.specs.Sorting.{AreRowsFor}
use Rattle.files.proofs.sorting.sorted.Given as goal

abbrev pub invariant-loop-info : goal.invariant-loop-info
invariant-loop-info l = AreRowsFor l.fn.has_hidden l.yielded l.rows.items
