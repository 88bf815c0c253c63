use Rattle.widget_meters.proofs.WholeLemmas.{full-columns, full-cells}
use Rattle.widget_meters.proofs.laws.full_gauges_are_filled.Goals as goal

pub returns : goal.returns
returns c = record { columns = full-columns; cells = full-cells }
