use Rattle.std.proofs.Common.{arith}
use Rattle.text_area.specs.Areas.{area_text}
use Rattle.text_area.proofs.RowLemmas.{start-le, start-row}
use Rattle.text_area.proofs.area.TextArea.start_before.Goals as goal

pub start_before-requires-clause-at : goal.start_before-requires-clause-at
start_before-requires-clause-at c =
    rw c.text.ensures (omega (arith, c.requires.start, start-le c.args.number (area_text c.args.self.now)))

pub start_before-requires-clause-row : goal.start_before-requires-clause-row
start_before-requires-clause-row c =
    rw c.text.ensures
    (start-row (area_text c.args.self.now) c.args.number c.args.start c.requires.start c.requires.within)
