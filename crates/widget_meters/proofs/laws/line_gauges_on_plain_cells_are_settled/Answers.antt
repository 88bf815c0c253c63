use Rattle.widget_meters.proofs.SettledLemmas.{settled-line_gauge}
use Rattle.widget_meters.proofs.laws.line_gauges_on_plain_cells_are_settled.Goals as goal

pub returns : goal.returns
returns c = settled-line_gauge
