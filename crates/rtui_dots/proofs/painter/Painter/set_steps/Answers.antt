use Rattle.std.proofs.Common.{arith}
use Rattle.rtui_dots.proofs.LineLemmas.{steps-there}
use Rattle.rtui_dots.proofs.painter.Painter.set_steps.Goals as goal

pub set_steps_marked-requires-clause-inside : goal.set_steps_marked-requires-clause-inside
set_steps_marked-requires-clause-inside c = λ _.
    steps-there c.args.self.now.scale c.args.run c.args.first c.args.end c.requires.some c.requires.end
    (c.requires.within (omega arith)) (c.has_across-is_inside.ensures c.if-is_inside.true)
