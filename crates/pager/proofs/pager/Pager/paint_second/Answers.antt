use Rattle.pager.proofs.pager.Pager.paint_second.Goals as goal

pub returns-in-Marking-clause-ok : goal.returns-in-Marking-clause-ok
returns-in-Marking-clause-ok c = rw c.in-Marking.is (rw c.reversed.ensures at c.paint_text.ensures.ok)

pub returns-in-Returning-clause-ok : goal.returns-in-Returning-clause-ok
returns-in-Returning-clause-ok c =
    rw c.in-Returning.is (rw c.reversed-in-Returning.ensures at c.paint_text-in-Returning.ensures.ok)

pub returns-in-Helping-clause-ok : goal.returns-in-Helping-clause-ok
returns-in-Helping-clause-ok c = rw c.in-Helping.is (rw c.reversed-in-Helping.ensures at c.paint_text-in-Helping.ensures.ok)
