use Rattle.widget_tree.proofs.LawLemmas.{below-shown, above-shown, down-then-up}
use Rattle.widget_tree.proofs.laws.steps_lead_to_shown_nodes.Goals as goal

pub returns-clause-below : goal.returns-clause-below
returns-clause-below c = below-shown

pub returns-clause-above : goal.returns-clause-above
returns-clause-above c = above-shown

pub returns-clause-back : goal.returns-clause-back
returns-clause-back c = down-then-up
