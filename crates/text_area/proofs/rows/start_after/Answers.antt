use Rattle.text_area.proofs.RowLemmas.{after-some, after-order, after-within, after-none}
use Rattle.text_area.proofs.rows.start_after.Goals as goal

pub returns-clause-some : goal.returns-clause-some
returns-clause-some c = after-some c.args.text.now c.args.number c.args.at c.requires.row c.next_line.result
    c.next_line.ensures.next

pub returns-clause-within : goal.returns-clause-within
returns-clause-within c = after-within c.args.text.now c.args.number c.args.at c.requires.row c.next_line.result
    c.next_line.ensures.next

pub returns-clause-none : goal.returns-clause-none
returns-clause-none c = after-none c.args.text.now c.args.number c.args.at c.requires.row c.next_line.result
    c.next_line.ensures.none

pub returns-clause-order : goal.returns-clause-order
returns-clause-order c = after-order c.args.text.now c.args.number c.args.at c.requires.row c.next_line.result
    c.requires.at c.next_line.ensures.next
