use Rattle.pager.proofs.PieceLemmas.{through-last}
use Rattle.pager.proofs.piece_reader.whole_lines.Goals as goal

pub returns-in-Some-clause-whole : goal.returns-in-Some-clause-whole
returns-in-Some-clause-whole c =
    through-last c.args.bytes.now c.args.from c.in-Some.last c.in-Some.ensures.0.high c.in-Some.ensures.1
