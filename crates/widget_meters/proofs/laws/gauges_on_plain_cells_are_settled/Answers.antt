use Rattle.widget_meters.proofs.SettledLemmas.{settled-gauge}
use Rattle.widget_meters.proofs.laws.gauges_on_plain_cells_are_settled.Goals as goal

pub returns : goal.returns
returns c = settled-gauge
