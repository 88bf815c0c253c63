use Rattle.std.proofs.Common.{ap, ◌∙◌, arith}
use Rattle.std.specs.Str.{byte}
use Rattle.std.proofs.lemmas.{Iterator.Splits.YieldsList-from_str_split, Iterator.Consumers.YieldsList-end}
use Rattle.files.specs.Ways.{after_parts}
use Rattle.files.proofs.ways.after_parts.Goals as goal

pub returns : goal.returns
returns c =
    let all = YieldsList-end (YieldsList-from_str_split (byte "/") c.args.text.now (omega arith) (cc) (cc) (cc)) c.loop-part.yielded _
    c.loop-part.yielded_by _ _ c.in-None.is c.next.ensures.steps in
    c.loop-part.invariant ∙ ap after_parts all.0
