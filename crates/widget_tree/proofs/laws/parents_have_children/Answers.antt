use Rattle.widget_tree.proofs.LawLemmas.{children-parent, parent-children, parent-ancestor}
use Rattle.widget_tree.proofs.laws.parents_have_children.Goals as goal

pub returns-clause-next : goal.returns-clause-next
returns-clause-next c = children-parent

pub returns-clause-parent : goal.returns-clause-parent
returns-clause-parent c = parent-children

pub returns-clause-ancestor : goal.returns-clause-ancestor
returns-clause-ancestor c = parent-ancestor
