use Rattle.std.proofs.Common.{◌≡◌, suc, ◌+◌, ◌-◌, ◌*◌, arith}
use Rattle.rtui_dots.specs.Lines.{run_dot, gone_after}
use Rattle.rtui_dots.proofs.LineLemmas.{quotient, next-dots, step-dot, step-there}
use Rattle.rtui_dots.proofs.line.set_steps_by.Goals as goal

pub set_by-requires-clause-inside : goal.set_by-requires-clause-inside
set_by-requires-clause-inside c = λ is.
    let i = c.loop-step.invariant in
    let gone : gone_after c.args.run.long c.args.run.short c.loop-step.step ≡ c.loop-step.gone =
    quotient (2 * c.args.run.long) c.loop-step.gone c.loop-step.rest _ i.part i.sum in
    step-there c.args.scale c.args.run c.args.first c.args.end c.loop-step.step c.loop-step.gone c.across_at.result
    c.args.way.is_flat c.args.color c.requires.flat c.across_at.ensures gone (c.requires.inside is) (omega arith) (omega arith)

pub loop-step-preserved : goal.loop-step-preserved
loop-step-preserved c =
    let i = c.loop-step.invariant in
    let gone : gone_after c.args.run.long c.args.run.short c.loop-step.step ≡ c.loop-step.gone =
    quotient (2 * c.args.run.long) c.loop-step.gone c.loop-step.rest _ i.part i.sum in
    let more : c.args.end - c.loop-step.step ≡ suc (c.args.end - (c.loop-step.step + 1)) = omega arith in
    let at = step-dot c.args.run c.loop-step.step c.loop-step.gone c.across_at.result c.args.way.is_flat c.args.color c.requires.flat
    c.across_at.ensures gone in
    record {
      sum = grind arith;
      part = c.step_on.ensures.part;
      few = omega arith;
      dots = next-dots c.args.scale (run_dot c.args.run c.args.color) _ c.loop-step.step _ _ c.loop-step.cells
          c.set_by.new.cells _ more at c.set_by.ensures i.dots;
    }
