use Rattle.widget_tree.proofs.LawLemmas.{scroll-stays, scroll-up, scroll-down}
use Rattle.widget_tree.proofs.laws.rows_move_as_little_as_they_can.Goals as goal

pub returns-clause-stays : goal.returns-clause-stays
returns-clause-stays c = scroll-stays

pub returns-clause-up : goal.returns-clause-up
returns-clause-up c = scroll-up

pub returns-clause-down : goal.returns-clause-down
returns-clause-down c = scroll-down
