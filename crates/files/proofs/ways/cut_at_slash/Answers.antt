use Rattle.std.proofs.Common.{arith}
use Rattle.std.specs.Str.{byte}
use Rattle.files.proofs.WayLemmas.{cut-none, cut-some}
use Rattle.files.proofs.ways.cut_at_slash.Goals as goal

pub returns-in-Some : goal.returns-in-Some
returns-in-Some c =
    let h = c.in-Some.ensures.cases in
    cut-some (byte "/") c.args.path.now c.in-Some.front.now c.in-Some.back.now h.0 h.1 (omega arith) h.2.1.ends
    (h.2.1.byte (omega arith)) h.2.0 h.3 h.4 h.7

pub returns-in-None : goal.returns-in-None
returns-in-None c = cut-none (byte "/") c.args.path.now (omega arith) c.in-None.ensures.cases
