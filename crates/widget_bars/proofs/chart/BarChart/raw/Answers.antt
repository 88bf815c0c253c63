use Rattle.std.proofs.Common.{rules}
use Rattle.std.proofs.lemmas.Result.{IfOk-weaker}
use Rattle.widget_bars.proofs.chart.BarChart.raw.Goals as goal

pub returns : goal.returns
returns c = IfOk-weaker c.new.result _ _ (λ chart new. (_, new, search rules, search rules)) c.new.ensures
