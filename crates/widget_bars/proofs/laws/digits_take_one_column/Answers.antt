use Rattle.std.proofs.Common.{decimal}
use Rattle.widget_bars.proofs.NarrowChartLemmas.{digits-printable}
use Rattle.widget_bars.proofs.laws.digits_take_one_column.Goals as goal

pub returns : goal.returns
returns c = λ n lt. c.printable_graphemes_take_one_column.ensures.text (decimal n) (digits-printable n lt)
