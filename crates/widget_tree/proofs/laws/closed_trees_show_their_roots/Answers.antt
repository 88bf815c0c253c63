use Rattle.widget_tree.proofs.LawLemmas.{roots-shown, only-roots}
use Rattle.widget_tree.proofs.laws.closed_trees_show_their_roots.Goals as goal

pub returns-clause-roots : goal.returns-clause-roots
returns-clause-roots c = roots-shown

pub returns-clause-only : goal.returns-clause-only
returns-clause-only c = only-roots
