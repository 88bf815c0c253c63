use Rattle.std.proofs.Common.{◌≡◌}
use Rattle.files.specs.Finding.{first_named}
use Rattle.files.proofs.search.first_of_all.Given as goal

abbrev pub invariant-loop-place : goal.invariant-loop-place
invariant-loop-place l = first_named l.fn.text l.fn.rows 0 ≡ first_named l.fn.text l.fn.rows l.place
