use Rattle.std.proofs.Common.{rules, ◌≡◌, ◌<◌, ◌∷◌, ap, ◌∙◌, arith}
use Rattle.files.specs.Ranks.{worth}
use Rattle.files.proofs.RankLemmas.{worth-byte, worth-end}
use Rattle.files.proofs.ranks.Rank.push.Goals as goal

pub returns-then-byte-lt255 : goal.returns-then-byte-lt255
returns-then-byte-lt255 c = λ rest.
    let unit = c.args.self.now.unit in
    let same : c.from.result ≡ c.args.byte = search rules in
    let low : c.from.result < 255 = omega (arith, same, c.if-byte-lt255.true) in
    omega (arith, worth-byte unit c.from.result rest low ∙ ap (λ b. worth unit (b ∷ rest)) same)

pub returns-else-byte-lt255 : goal.returns-else-byte-lt255
returns-else-byte-lt255 c = λ rest.
    omega (arith, worth-end c.args.self.now.unit c.args.byte rest (omega (arith, c.if-byte-lt255.false)))
