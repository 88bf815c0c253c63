use Rattle.std.proofs.Common.{◌≡◌, length}
use Rattle.files.specs.Finding.{last_named}
use Rattle.files.proofs.search.last_of_all.Given as goal

abbrev pub invariant-loop-place : goal.invariant-loop-place
invariant-loop-place l = last_named l.fn.text l.fn.rows (length l.fn.rows) ≡ last_named l.fn.text l.fn.rows l.place

abbrev pub decreases-loop-place : goal.decreases-loop-place
decreases-loop-place l = l.place
