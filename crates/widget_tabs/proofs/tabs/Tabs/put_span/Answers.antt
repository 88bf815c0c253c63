use Rattle.widget_tabs.specs.Tabs.{span_part}
use Rattle.widget_tabs.proofs.TabLemmas.{part-refused, part-drawn}
use Rattle.widget_tabs.proofs.tabs.Tabs.put_span.Goals as goal

pub returns-in_err-columns : goal.returns-in_err-columns
returns-in_err-columns c = part-refused c.from_residual.result c.from_residual.ensures.0 c.in_err-columns.ensures.done

pub returns : goal.returns
returns c =
    part-drawn c.args.self.now.highlight_style (span_part c.args.span.now) c.args.row c.of.result c.in_ok-columns.columns
    c.args.buf.now c.write_span.new.buf c.requires c.in_ok-columns.ensures.fits c.of.ensures
    c.in_ok-columns.ensures.columns c.in_ok-columns.ensures.done.ok
