use Rattle.rtui_geometry.proofs.Parts.{lists_rows}
use Rattle.rtui_geometry.proofs.rect.Rect.rows.Goals as goal

pub returns-clause-meaning : goal.returns-clause-meaning
returns-clause-meaning c = rw c.new.ensures (lists_rows c.args.self)
