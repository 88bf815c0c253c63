use Rattle.std.proofs.lemmas.{List.map-append, Iterator.Consumers.YieldsList-end, Iterator.Consumers.YieldsList-turn}
use Rattle.std.proofs.lemmas.{Iterator.Splits.YieldsList-from_lines}
use Rattle.std.proofs.Common.{◌≡◌, ◌++◌, ◌∷◌, [], map, ap, ap₂, ◌∙◌, rules, length, ◌==◌, false, refl}
use Rattle.std.specs.Str.Iter.{lines_rest}
use Rattle.rtui_text.specs.Text.{raw_line}
use Rattle.rtui_text.proofs.BreakLemmas.{line-unbroken}
use Rattle.rtui_text.proofs.text.Text.raw.Goals as goal

pub loop-line-preserved : goal.loop-line-preserved
loop-line-preserved c =
    let road = YieldsList-from_lines c.args.content.now (ap lines_rest c.into_iter-line-iterator.ensures.into_iter_gives
    ∙ c.lines-line-items.ensures.rest) in
    let turn = YieldsList-turn road c.loop-line.yielded _ c.loop-line.yielded_by c.next.result _ c.in-Some.line c.in-Some.is
    c.next.ensures.steps in
    let whole = c.in_ok-unbroken.ensures (line-unbroken c.args.content.now (length c.loop-line.yielded) c.in-Some.line.now turn.0
    turn.1) in
    rw (map-append, map-append) (c.in_ok-push.ensures.ok ∙ ap₂ (λ xs l. xs ++ l ∷ []) c.loop-line.invariant whole)

pub returns : goal.returns
returns c =
    let all = YieldsList-end (YieldsList-from_lines c.args.content.now
    (ap lines_rest c.into_iter-line-iterator.ensures.into_iter_gives ∙ c.lines-line-items.ensures.rest)) c.loop-line.yielded _
    c.loop-line.yielded_by _ _ c.in-None.is c.next.ensures.steps in
    let made = c.loop-line.invariant ∙ ap (map raw_line) all.0 in
    let some : (length c.args.content.now == 0) ≡ false = search rules in
    rw (c.from.ensures, made, some) refl
