use Rattle.rtui_backend.specs.Inner.{symbol_in, AreBlank}
use Rattle.rtui_backend.proofs.test.lines.is_blank.Given as goal

abbrev pub invariant-loop-x : goal.invariant-loop-x
invariant-loop-x l = AreBlank (symbol_in l.row) l.from l.x
