use Rattle.text_area.proofs.FindLemmas.{last-is, last-none}
use Rattle.text_area.proofs.find.last_before.Goals as goal

pub returns-in-Some-clause-some : goal.returns-in-Some-clause-some
returns-in-Some-clause-some c =
    last-is c.args.pattern.now c.args.text.now _ c.args.to c.in-Some.at c.utf8.text c.requires
    c.split_at.ensures.front
    c.in-Some.ensures.cases

pub returns-in-None-clause-none : goal.returns-in-None-clause-none
returns-in-None-clause-none c =
    last-none c.args.pattern.now c.args.text.now _ c.args.to c.requires.0 c.split_at.ensures.front
    c.in-None.ensures.cases
