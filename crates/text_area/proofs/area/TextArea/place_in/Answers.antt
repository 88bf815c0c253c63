use Rattle.std.proofs.Common.{arith}
use Rattle.text_area.specs.Areas.{area_text}
use Rattle.text_area.proofs.RowLemmas.{start-le, start-row}
use Rattle.text_area.proofs.area.TextArea.place_in.Goals as goal

pub returns-else-number-cursor_row-clause-at : goal.returns-else-number-cursor_row-clause-at
returns-else-number-cursor_row-clause-at c =
    omega (arith, c.requires.start, start-le c.args.number (area_text c.args.self.now))

pub returns-else-number-cursor_row-clause-row : goal.returns-else-number-cursor_row-clause-row
returns-else-number-cursor_row-clause-row c =
    start-row (area_text c.args.self.now) c.args.number c.args.start c.requires.start c.requires.within
