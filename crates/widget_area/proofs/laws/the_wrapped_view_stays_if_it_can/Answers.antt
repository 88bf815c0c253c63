use Rattle.widget_area.proofs.PlaceLaws.{stays}
use Rattle.widget_area.proofs.laws.the_wrapped_view_stays_if_it_can.Goals as goal

pub returns : goal.returns
returns c = stays
