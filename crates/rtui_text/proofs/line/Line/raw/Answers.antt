use Rattle.std.proofs.Common.{map, ap, ◌∙◌}
use Rattle.std.proofs.lemmas.{Iterator.Consumers.YieldsList-end, Iterator.Splits.YieldsList-from_lines}
use Rattle.std.specs.Str.Iter.{lines_rest}
use Rattle.rtui_text.specs.Text.{unstyled, line_of}
use Rattle.rtui_text.proofs.line.Line.raw.Goals as goal

pub returns : goal.returns
returns c =
    let all = YieldsList-end (YieldsList-from_lines c.args.content.now
    (ap lines_rest c.into_iter-line-iterator.ensures.into_iter_gives ∙ c.lines-line-items.ensures.rest)) c.loop-line.yielded _
    c.loop-line.yielded_by _ _ c.in-None.is c.next.ensures.steps in
    let spans = c.loop-line.invariant ∙ ap (map unstyled) all.0 in
    c.from.ensures ∙ ap line_of spans
