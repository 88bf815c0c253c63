use Rattle.std.proofs.Common.{◌≡◌, length}
use Rattle.pager.specs.Symbols.{runs_after}
use Rattle.pager.proofs.symbols.runs_after.Given as goal

abbrev pub invariant-loop-run : goal.invariant-loop-run
invariant-loop-run l = runs_after l.fn.byte l.fn.runs ≡ runs_after l.fn.byte l.left

abbrev pub decreases-loop-run : goal.decreases-loop-run
decreases-loop-run l = length l.left
