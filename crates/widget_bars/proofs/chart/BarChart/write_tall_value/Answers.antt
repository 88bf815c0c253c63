use Rattle.std.proofs.Common.{◌-◌, arith}
use Rattle.rtui_drawing.specs.declared.cut.Cut.TheVariants.{Rows}
use Rattle.rtui_drawing.proofs.{DrawingLemmas.part-cut, WriteLemmas.row-of}
use Rattle.widget_bars.proofs.chart.BarChart.write_tall_value.Goals as goal

pub write_text_of-requires : goal.write_text_of-requires
write_text_of-requires c =
    rw c.of.ensures (row-of (part-cut (Rows (c.args.rows - 1) 1) c.requires.part) c.requires.columns (omega arith))
