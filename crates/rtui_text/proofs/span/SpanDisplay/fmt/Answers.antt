use Rattle.std.proofs.Common.{ap, ◌∙◌}
use Rattle.std.proofs.lemmas.{Iterator.Consumers.YieldsList-end, Iterator.Splits.YieldsList-from_lines}
use Rattle.std.specs.{Str.Iter.lines_rest, List.flat_map}
use Rattle.std.proofs.Output.{has_written_of_eq}
use Rattle.rtui_text.proofs.span.SpanDisplay.fmt.Goals as goal

pub returns-clause-writes : goal.returns-clause-writes
returns-clause-writes g c = λ p _.
    let all = YieldsList-end (YieldsList-from_lines c.args.self.now.content
    (ap lines_rest c.into_iter-line-iterator.ensures.into_iter_gives ∙ (c.lines-line-items.ensures.rest ∙ c.text.ensures)))
    c.loop-line.yielded _ c.loop-line.yielded_by _ _ c.in-None.is c.next.ensures.steps in
    has_written_of_eq _ _ _ _ _ (ap (flat_map (λ line. line)) all.0) (c.loop-line.invariant p)
