use Rattle.std.proofs.Common.{drop}
use Rattle.rtui_drawing.proofs.Laws.{Continues}
use Rattle.widget_chart.specs.{Charts.axis_labels, ChartParts.label_at, ChartParts.each_numbered}
use Rattle.widget_chart.proofs.axis.Axis.put_all.Given as goal

abbrev pub invariant-loop-i : goal.invariant-loop-i
invariant-loop-i l =
    let ls = axis_labels l.fn.self in
    let place = label_at l.fn.self l.fn.left l.fn.area in
    Continues (each_numbered place l.i (drop l.i ls)) l.fn.area (each_numbered place 0 ls) l.fn.area l.fn.buf l.buf
