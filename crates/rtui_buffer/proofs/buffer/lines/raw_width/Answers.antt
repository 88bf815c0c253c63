use Rattle.std.proofs.Common.{map, ap, ◌∙◌}
use Rattle.std.proofs.lemmas.{Iterator.Consumers.YieldsList-end, Iterator.Splits.YieldsList-from_lines}
use Rattle.std.specs.Str.Iter.{lines_rest}
use Rattle.rtui_text.specs.{Text.unstyled, Widths.line_width}
use Rattle.rtui_buffer.proofs.buffer.lines.raw_width.Goals as goal

pub returns : goal.returns
returns c =
    let all = YieldsList-end (YieldsList-from_lines c.args.text.now
    (ap lines_rest c.into_iter-line-iterator.ensures.into_iter_gives ∙ c.lines-line-items.ensures.rest)) c.loop-line.yielded _
    c.loop-line.yielded_by _ _ c.in-None.is c.next.ensures.steps in
    c.loop-line.invariant ∙ ap (λ ts. line_width (map unstyled ts)) all.0
