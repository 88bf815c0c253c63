use Rattle.std.proofs.Common.{◌+◌, drop, sym, ◌∙◌, arith}
use Rattle.std.proofs.lemmas.List.{at_drop_more, at_drop_all}
use Rattle.files.specs.Ranks.{key_bytes, worth}
use Rattle.files.proofs.RankLemmas.{none-left}
use Rattle.files.proofs.ranks.key_rank.Goals as goal

pub loop-item-preserved : goal.loop-item-preserved
loop-item-preserved c =
    let key = c.args.key.now in
    let i = c.loop-item.item-index in
    let rank = c.loop-item.rank in
    c.push_item-is_number.ensures (drop (i + 1) key)
    ∙ sym (at_drop_more (λ rest. rank.value + worth rank.unit (key_bytes c.loop-item.is_number rest)) key i 0
    (omega (arith, c.loop-item-test.true)))
    ∙ c.loop-item.invariant

pub returns : goal.returns
returns c =
    let rank = c.loop-item.rank in
    none-left rank.value rank.unit c.loop-item.is_number
    ∙ sym (at_drop_all (λ rest. rank.value + worth rank.unit (key_bytes c.loop-item.is_number rest)) c.args.key.now
    c.loop-item.item-index (omega (arith, c.loop-item-test.false)))
    ∙ c.loop-item.invariant
