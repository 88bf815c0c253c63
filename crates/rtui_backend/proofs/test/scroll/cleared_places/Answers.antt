use Rattle.std.proofs.Common.{arith}
use Rattle.rtui_backend.proofs.ShiftLemmas.{places_after, places_before, places_line, places_until}
use Rattle.rtui_backend.proofs.test.scroll.cleared_places.Goals as goal

pub returns-in-AfterCursor-clause-places : goal.returns-in-AfterCursor-clause-places
returns-in-AfterCursor-clause-places c = λ a b a_in b_in.
    rw (
      c.in-AfterCursor.is,
      c.min-at.ensures,
      c.min-line.ensures,
      c.from-2.ensures,
      c.from-3.ensures,
      c.from-width.ensures,
      c.from.ensures,
    )
    (places_after c.args.size.width c.args.size.height c.args.cursor.x c.args.cursor.y a b a_in b_in
    (omega (arith, c.requires.column)))

pub returns-in-BeforeCursor-clause-places : goal.returns-in-BeforeCursor-clause-places
returns-in-BeforeCursor-clause-places c = λ a b a_in b_in.
    rw (
      c.in-BeforeCursor.is,
      c.min.ensures,
      c.min-at.ensures,
      c.min-line.ensures,
      c.from-2.ensures,
      c.from-3.ensures,
      c.from-width.ensures,
      c.from.ensures,
    )
    (places_before c.args.size.width c.args.size.height c.args.cursor.x c.args.cursor.y a b a_in b_in
    (omega (arith, c.requires.column)))

pub returns-in-CurrentLine-clause-places : goal.returns-in-CurrentLine-clause-places
returns-in-CurrentLine-clause-places c = λ a b a_in b_in.
    rw (c.in-CurrentLine.is, c.min-line_end.ensures, c.min-line.ensures, c.from-2.ensures, c.from-width.ensures, c.from.ensures)
    (places_line c.args.size.width c.args.size.height c.args.cursor.x c.args.cursor.y a b a_in b_in
    (omega (arith, c.requires.column)))

pub returns-in-UntilNewLine-clause-places : goal.returns-in-UntilNewLine-clause-places
returns-in-UntilNewLine-clause-places c = λ a b a_in b_in.
    rw (
      c.in-UntilNewLine.is,
      c.min-at.ensures,
      c.min-line_end.ensures,
      c.min-line.ensures,
      c.from-2.ensures,
      c.from-3.ensures,
      c.from-width.ensures,
      c.from.ensures,
    )
    (places_until c.args.size.width c.args.size.height c.args.cursor.x c.args.cursor.y a b a_in b_in
    (omega (arith, c.requires.column)))
