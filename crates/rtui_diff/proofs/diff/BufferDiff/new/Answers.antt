use Rattle.rtui_diff.proofs.DiffPromise.{is_diff}
use Rattle.rtui_diff.proofs.diff.BufferDiff.new.Goals as goal

pub returns : goal.returns
returns c = let a = c.args in rw c.new.ensures (is_diff a.x a.y a.width a.height a.prev.now a.next.now)
