use Rattle.std.proofs.Common.{rules, ◌≡◌, ◌+◌, ◌∷◌, min, false, ap, ◌∙◌, arith}
use Rattle.files.specs.Ranks.{key_bytes, worth}
use Rattle.files.proofs.RankLemmas.{bytes-zero, item-worth}
use Rattle.files.proofs.ranks.Rank.push_item.Goals as goal

pub returns-then-item-eq0 : goal.returns-then-item-eq0
returns-then-item-eq0 c = λ rest.
    rw c.if-is_number.false (ap (λ bytes. c.args.self.now.value + worth c.args.self.now.unit bytes)
    (bytes-zero c.args.item rest (omega (arith, c.if-item-eq0.true))))

pub returns : goal.returns
returns c = λ rest.
    let value = c.args.self.now.value in
    let unit = c.args.self.now.unit in
    let least : c.min.result ≡ min c.args.item 251 = search rules in
    c.push.ensures (key_bytes false rest)
    ∙ ap (λ m. value + worth unit ((m + 4) ∷ key_bytes false rest)) least
    ∙ rw c.if-is_number.false (ap (λ w. value + w)
    (item-worth unit c.args.item rest (omega (arith, c.if-item-eq0.false))))
