use Rattle.std.proofs.Common.{arith}
use Rattle.widget_meters.proofs.MeterLemmas.{rounded-le}
use Rattle.widget_meters.proofs.share.Share.rounded.Goals as goal

pub returns-clause-within : goal.returns-clause-within
returns-clause-within c = let le = rounded-le c.from.result c.from-parts.result c.from-whole.result (omega arith) (omega arith) in
    omega arith
