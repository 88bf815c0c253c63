use Rattle.std.proofs.Common.{◌≡◌, ◌≤◌, ◌<◌, ◌+◌, ◌-◌, ◌*◌}
use Rattle.rtui_dots.specs.Grids.{with_dots}
use Rattle.rtui_dots.specs.Lines.{run_dot, dots_from}
use Rattle.rtui_dots.proofs.line.set_steps_by.Given as goal

abbrev pub invariant-loop-step : goal.invariant-loop-step
invariant-loop-step l = record {
  sum : l.rest + 2 * l.run.long * l.gone ≡ 2 * l.run.short * l.step + (l.run.long - 1);
  part : l.rest < 2 * l.run.long;
  few : l.gone ≤ l.step;
  dots : with_dots l.scale (dots_from (run_dot l.run l.color) l.step (l.end - l.step)) l.cells
      ≡ with_dots l.scale (dots_from (run_dot l.run l.color) l.first (l.end - l.first)) l.initial.cells;
}
