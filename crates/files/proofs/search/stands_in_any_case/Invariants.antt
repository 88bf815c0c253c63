use Rattle.std.proofs.Common.{◌≡◌, drop}
use Rattle.files.specs.Finding.{stands_in}
use Rattle.files.proofs.search.stands_in_any_case.Given as goal

abbrev pub invariant-loop-at : goal.invariant-loop-at
invariant-loop-at l = stands_in l.fn.text l.fn.name ≡ stands_in l.fn.text (drop l.at l.fn.name)
