use Rattle.std.proofs.Common.{◌≡◌, ◌∙◌, arith}
use Rattle.files.specs.Completions.{common_count}
use Rattle.files.proofs.WayLemmas.{count-more, count-here, count-end}
use Rattle.files.proofs.completions.common_count.Goals as goal

pub returns-then-one-count : goal.returns-then-one-count
returns-then-one-count c = count-here (common_count c.args.one.now c.args.other.now) c.loop-count.count c.args.one.now c.args.other.now
    c.index-one-count.result c.index-other-count.result (omega arith) c.index-one-count.is c.index-other-count.is c.if-one-count.true
    c.loop-count.invariant

pub loop-count-preserved : goal.loop-count-preserved
loop-count-preserved c = count-more (common_count c.args.one.now c.args.other.now) c.loop-count.count c.args.one.now c.args.other.now
    c.index-one-count.result c.index-other-count.result (omega arith) c.index-one-count.is c.index-other-count.is c.if-one-count.false
    c.loop-count.invariant

pub returns : goal.returns
returns c =
    let last : c.min-most.result ≡ c.loop-count.count = omega arith in
    last ∙ count-end (common_count c.args.one.now c.args.other.now) c.loop-count.count c.args.one.now c.args.other.now (omega arith)
    c.loop-count.invariant
