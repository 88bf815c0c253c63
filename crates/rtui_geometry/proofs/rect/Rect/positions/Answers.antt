use Rattle.rtui_geometry.proofs.Parts.{lists_positions}
use Rattle.rtui_geometry.proofs.rect.Rect.positions.Goals as goal

pub returns-clause-meaning : goal.returns-clause-meaning
returns-clause-meaning c = rw c.new.ensures (lists_positions c.args.self)
