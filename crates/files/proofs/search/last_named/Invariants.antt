use Rattle.std.proofs.Common.{◌≡◌}
use Rattle.files.specs.Finding.{last_named}
use Rattle.files.proofs.search.last_named.Given as goal

abbrev pub invariant-loop-place : goal.invariant-loop-place
invariant-loop-place l = last_named l.fn.text l.fn.rows l.fn.before ≡ last_named l.fn.text l.fn.rows l.place

abbrev pub decreases-loop-place : goal.decreases-loop-place
decreases-loop-place l = l.place
