use Rattle.std.proofs.Common.{rules}
use Rattle.rtui_dots.proofs.LineLemmas.{line-painted}
use Rattle.rtui_dots.proofs.painter.Painter.draw_line.Goals as goal

pub returns : goal.returns
returns c =
    line-painted c.args.self.now.scale c.args.from.0 c.args.from.1 c.args.to.0 c.args.to.1 c.args.color c.column-x.result
    c.row-y.result c.column-last_x.result c.row-last_y.result c.run_of.result c.args.self.now c.set_run.new.self
    (search rules) (search rules) (search rules) (search rules) (search rules) c.run_of.ensures.value c.set_run.ensures
