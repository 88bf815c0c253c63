use Rattle.std.proofs.Common.{◌≡◌, map, ap, ◌∙◌, rules, length, ◌==◌, false, refl}
use Rattle.std.proofs.lemmas.{Iterator.Consumers.YieldsList-end, Iterator.Splits.YieldsList-from_lines}
use Rattle.std.specs.Str.Iter.{lines_rest}
use Rattle.rtui_text.specs.Text.{raw_line}
use Rattle.rtui_text.proofs.text.Text.copied.Goals as goal

pub returns : goal.returns
returns c =
    let all = YieldsList-end (YieldsList-from_lines c.args.content.now
    (ap lines_rest c.into_iter-line-iterator.ensures.into_iter_gives ∙ c.lines-line-items.ensures.rest)) c.loop-line.yielded _
    c.loop-line.yielded_by _ _ c.in-None.is c.next.ensures.steps in
    let made = c.loop-line.invariant ∙ ap (map raw_line) all.0 in
    let some : (length c.args.content.now == 0) ≡ false = search rules in
    rw (c.from.ensures, made, some) refl
