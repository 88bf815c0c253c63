use Rattle.std.proofs.Common.{sym, ◌∙◌, arith}
use Rattle.rtui_diff.proofs.DiffLemmas.{places-none}
use Rattle.rtui_diff.proofs.diff.BufferDiffIterator.next.Goals as goal

pub returns-clause-steps : goal.returns-clause-steps
returns-clause-steps c =
    let none = places-none c.loop-self.self-inside.walk (omega arith) in
    (sym c.self.view_is ∙ sym c.loop-self.invariant.left ∙ none, none)
