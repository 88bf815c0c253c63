use Rattle.std.proofs.Common.{rules, ◌+◌, false, ap, ◌∙◌}
use Rattle.files.specs.Ranks.{in_bytes, key_bytes, worth}
use Rattle.files.proofs.RankLemmas.{bytes-number}
use Rattle.files.proofs.ranks.Rank.push_number.Goals as goal

pub returns : goal.returns
returns c = λ rest.
    let more = c.more_bytes-more.result in
    c.push_bytes.ensures (key_bytes false rest)
    ∙ c.push.ensures (in_bytes more c.args.number (key_bytes false rest))
    ∙ ap (λ bytes. c.args.self.now.value + worth c.args.self.now.unit bytes)
    (bytes-number c.args.number _ more rest c.more_bytes-more.ensures (search rules))
