use Rattle.std.proofs.Common.{◌+◌, ◌%◌, ◌∷◌, ap, ◌∙◌, arith}
use Rattle.files.specs.Ranks.{worth}
use Rattle.files.proofs.RankLemmas.{bytes-one, bytes-more}
use Rattle.files.proofs.ranks.Rank.+push_bytes.Goals as goal

pub returns-then-more-eq0 : goal.returns-then-more-eq0
returns-then-more-eq0 t c = λ rest.
    c.push.ensures rest
    ∙ ap (λ bytes. c.args.self.now.value + worth c.args.self.now.unit bytes)
    (bytes-one c.args.more c.args.number rest (omega (arith, c.if-more-eq0.true)))

pub returns-else-more-eq0 : goal.returns-else-more-eq0
returns-else-more-eq0 t c = λ rest.
    c.push-else-more-eq0.ensures rest
    ∙ c.push_bytes.ensures (c.args.number % 256 ∷ rest)
    ∙ ap (λ bytes. c.args.self.now.value + worth c.args.self.now.unit bytes)
    (bytes-more c.args.more c.args.number rest (omega (arith, c.if-more-eq0.false)))
