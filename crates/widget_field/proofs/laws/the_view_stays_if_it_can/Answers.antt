use Rattle.widget_field.proofs.ViewLemmas.{view-stays}
use Rattle.widget_field.proofs.laws.the_view_stays_if_it_can.Goals as goal

pub returns : goal.returns
returns c = view-stays
