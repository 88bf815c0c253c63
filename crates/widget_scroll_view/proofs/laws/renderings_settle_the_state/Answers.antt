use Rattle.widget_scroll_view.proofs.SettledStateLemmas.{rendering-settles}
use Rattle.widget_scroll_view.proofs.laws.renderings_settle_the_state.Goals as goal

pub returns : goal.returns
returns c = rendering-settles
