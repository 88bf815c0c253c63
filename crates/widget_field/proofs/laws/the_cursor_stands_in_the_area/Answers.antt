use Rattle.std.proofs.Common.{arith}
use Rattle.widget_field.proofs.laws.the_cursor_stands_in_the_area.Goals as goal

pub returns : goal.returns
returns c = λ input f g r old new shows.
    let cursor = shows.parts.cursor in
    (shows.column, shows.place, omega (arith, cursor), shows.parts.in_area)
