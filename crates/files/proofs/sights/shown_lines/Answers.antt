use Rattle.std.proofs.Common.{ap, ◌∙◌, map}
use Rattle.std.proofs.lemmas.{Iterator.Splits.YieldsList-from_lines, Iterator.Consumers.YieldsList-end}
use Rattle.files.specs.Names.{text_shown}
use Rattle.files.proofs.sights.shown_lines.Goals as goal

pub returns : goal.returns
returns c =
    let all = YieldsList-end (YieldsList-from_lines c.args.text.now (cc)) c.loop-line.yielded _ c.loop-line.yielded_by _ _ c.in-None.is
    c.next.ensures.steps in
    c.loop-line.invariant ∙ ap (map text_shown) all.0
