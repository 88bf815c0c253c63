use Rattle.std.proofs.Common.{arith}
use Rattle.std.proofs.lemmas.{Bool.Decides.nat_tests}
use Rattle.ratatui_ansi.proofs.FrameLemmas.{draws-off, draws-vacant}
use Rattle.ratatui_ansi.proofs.draw.Draw.draw_cell.Goals.{then-x-width-via-then-x-width}
use Rattle.ratatui_ansi.proofs.draw.Draw.draw_cell.Goals.{then-x-width-via-else-x-width+then-y-height}
use Rattle.ratatui_ansi.proofs.draw.Draw.draw_cell.Goals as goal

pub returns-then-x-width-clause-drawn : goal.returns-then-x-width-clause-drawn
returns-then-x-width-clause-drawn c = rw c.count.ensures (draws-off c.args.place _ c.args.self.now c.requires
    (elim c.then-x-width.branch [
      | then-x-width-via-then-x-width w ↦ grind (arith, nat_tests)
      | then-x-width-via-else-x-width+then-y-height w ↦ grind (arith, nat_tests)
    ]))

pub returns-then-is_vacant-clause-drawn : goal.returns-then-is_vacant-clause-drawn
returns-then-is_vacant-clause-drawn c = rw c.count-then-is_vacant.ensures (draws-vacant c.args.place _ c.args.self.now c.requires
    (omega arith) (omega arith) (rw (c.from.ensures, c.from-2.ensures, c.from-3.ensures) at c.if-self-from.true)
    (c.is_vacant.ensures.0 c.if-is_vacant.true))
