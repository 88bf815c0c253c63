use Rattle.widget_tabs.specs.Tabs.{line_part}
use Rattle.widget_tabs.proofs.TabLemmas.{part-drawn, line-refused}
use Rattle.widget_tabs.proofs.tabs.Tabs.put_line.Goals as goal

pub returns-in_err-columns : goal.returns-in_err-columns
returns-in_err-columns c = line-refused c.from_residual.result c.from_residual.ensures.0 c.in_err-columns.ensures.done

pub returns : goal.returns
returns c =
    part-drawn c.args.self.now.highlight_style (line_part c.args.line.now c.args.is_selected) c.args.row c.of-2.result
    c.in_ok-columns.columns c.args.buf.now c.highlight_if.new.buf c.requires c.in_ok-columns.ensures.fits c.of-2.ensures
    c.in_ok-columns.ensures.columns (
      c.write_line.new.buf,
      c.in_ok-columns.ensures.done.ok,
      rw (c.of.ensures, c.in_ok-columns.ensures.columns) at c.highlight_if.ensures,
    )
