use Rattle.widget_tree.proofs.SettledTreeLemmas.{rendering-settles}
use Rattle.widget_tree.proofs.laws.renderings_settle_the_state.Goals as goal

pub returns : goal.returns
returns c = rendering-settles
