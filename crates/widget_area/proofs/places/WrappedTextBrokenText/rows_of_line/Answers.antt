use Rattle.std.proofs.Common.{sym, arith}
use Rattle.widget_area.specs.PlaceRows.{wrapped_rows-past}
use Rattle.widget_area.proofs.places.WrappedTextBrokenText.rows_of_line.Goals as goal

pub returns-in_default-clause-rows : goal.returns-in_default-clause-rows
returns-in_default-clause-rows c =
    let none = rw c.in_default.is at c.line_start.ensures.none in
    sym (wrapped_rows-past c.args.self.now.0 c.args.self.now.1 c.args.line (omega (arith, none)))
