use Rattle.pager.proofs.pager.Pager.line_number.Goals as goal

pub returns-in-Some-clause-bound : goal.returns-in-Some-clause-bound
returns-in-Some-clause-bound c = c.get_or.ensures.small c.requires
