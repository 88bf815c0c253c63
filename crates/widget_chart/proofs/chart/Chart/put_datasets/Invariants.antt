use Rattle.std.proofs.Common.{drop}
use Rattle.rtui_drawing.specs.Drawings.{IsPartOf}
use Rattle.rtui_drawing.proofs.Laws.{Continues}
use Rattle.widget_chart.specs.ChartParts.{all_dotted}
use Rattle.widget_chart.proofs.chart.Chart.put_datasets.Given as goal

abbrev pub invariant-loop-dataset : goal.invariant-loop-dataset
invariant-loop-dataset l =
    let ds = l.fn.self.datasets.items in
    record {
      part : IsPartOf l.buf.area l.fn.graph;
      rest : Continues (all_dotted l.fn.self l.fn.graph (drop l.dataset-index ds)) l.fn.graph (all_dotted l.fn.self l.fn.graph ds)
          l.fn.graph l.fn.buf l.buf;
    }
