use Rattle.std.proofs.Common.{◌/◌}
use Rattle.rtui_drawing.specs.{Drawings.IsPartOf, declared.cut.Cut.TheVariants.Rows}
use Rattle.rtui_drawing.proofs.DrawingLemmas.{part-cut}
use Rattle.widget_bars.proofs.chart.BarChart.write_long_value.Goals as goal

pub write_long_text-requires-clause-part : goal.write_long_text-requires-clause-part
write_long_text-requires-clause-part c =
    let bars : IsPartOf c.args.buf.now.area c.of.result =
    rw c.of.ensures (part-cut c.beside_labels.result c.requires.part) in
    rw c.of-row.ensures (part-cut (Rows (c.args.area.height / 2) 1) bars)
