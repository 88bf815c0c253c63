use Rattle.text_area.proofs.FindLemmas.{first-is, first-none}
use Rattle.text_area.proofs.find.first_from.Goals as goal

pub returns-in-Some-clause-some : goal.returns-in-Some-clause-some
returns-in-Some-clause-some c =
    first-is c.args.pattern.now c.args.text.now _ c.args.from c.in-Some.at c.requires
    c.split_at.ensures.back c.in-Some.ensures.cases

pub returns-in-None-clause-none : goal.returns-in-None-clause-none
returns-in-None-clause-none c =
    first-none c.args.pattern.now c.args.text.now _ c.args.from c.split_at.ensures.back
    c.in-None.ensures.cases
