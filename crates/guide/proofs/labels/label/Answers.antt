use Rattle.std.proofs.Common.{rules}
use Rattle.ratatui_core.specs.Layout.{HasPosition}
use Rattle.ratatui_core.proofs.BufferLemmas.{IsSettledBuffer-empty, IsPaintable-empty, IsSettledBuffer-painted, text-ends, on-ok}
use Rattle.guide.proofs.labels.label.Goals as goal

pub returns-then-not-contains-clause-settled : goal.returns-then-not-contains-clause-settled
returns-then-not-contains-clause-settled c = λ emptied. IsSettledBuffer-empty _ _ emptied

pub returns-clause-settled : goal.returns-clause-settled
returns-clause-settled c = λ emptied.
    let has : HasPosition c.args.buffer.now.area c.args.position = search rules in
    on-ok c.set_string.result (IsSettledBuffer-painted c.args.position _ c.args.buffer.now c.set_string.new.self has.left
    (text-ends c.args.buffer.now.area c.args.position.x 65535 c.new.result c.args.text.now)
    (IsSettledBuffer-empty _ _ emptied) (IsPaintable-empty _ _ emptied _ _)) c.set_string.ensures.paints.ok
