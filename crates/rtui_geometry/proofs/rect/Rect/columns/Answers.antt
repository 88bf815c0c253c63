use Rattle.rtui_geometry.proofs.Parts.{lists_columns}
use Rattle.rtui_geometry.proofs.rect.Rect.columns.Goals as goal

pub returns-clause-meaning : goal.returns-clause-meaning
returns-clause-meaning c = rw c.new.ensures (lists_columns c.args.self)
