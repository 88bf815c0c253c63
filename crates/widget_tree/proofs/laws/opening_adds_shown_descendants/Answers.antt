use Rattle.widget_tree.proofs.LawLemmas.{opening-adds, closing-hides}
use Rattle.widget_tree.proofs.laws.opening_adds_shown_descendants.Goals as goal

pub returns-clause-opening : goal.returns-clause-opening
returns-clause-opening c = opening-adds

pub returns-clause-closing : goal.returns-clause-closing
returns-clause-closing c = closing-hides
