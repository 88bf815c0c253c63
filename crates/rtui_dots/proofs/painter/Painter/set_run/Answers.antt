use Rattle.std.proofs.Common.{◌∙◌, arith}
use Rattle.rtui_dots.proofs.LineLemmas.{run-shown}
use Rattle.rtui_dots.proofs.painter.Painter.set_run.Goals as goal

pub returns : goal.returns
returns c = record {
  cells = c.set_steps.ensures.cells ∙ run-shown c.args.self.now.scale c.args.run c.args.color c.saturating_sub-first.result
      c.min-end.result c.args.self.now.cells.items (omega arith) (omega arith);
  scale = c.set_steps.ensures.scale;
}
