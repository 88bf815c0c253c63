use Rattle.std.proofs.Common.{arith}
use Rattle.rtui_drawing.proofs.WriteLemmas.{row-of}
use Rattle.widget_bars.proofs.chart.BarChart.write_long_text.Goals as goal

pub write_text_over-requires : goal.write_text_over-requires
write_text_over-requires c = row-of c.requires.part (omega arith) c.requires.rows
