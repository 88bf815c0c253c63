use Rattle.ansi_model.proofs.FlagLemmas.{places_after, places_before, places_line_end}
use Rattle.ansi_model.proofs.flags.part_places.Goals as goal

pub returns-in-AfterCursor-clause-places : goal.returns-in-AfterCursor-clause-places
returns-in-AfterCursor-clause-places c = λ a b a_in b_in.
    rw (c.in-AfterCursor.is, c.from-2.ensures, c.from-in-AfterCursor.ensures, c.from-width.ensures, c.from.ensures)
    (places_after c.args.size.width c.args.size.height c.args.x c.args.y a b a_in b_in c.requires.column c.requires.row)

pub returns-in-BeforeCursor-clause-places : goal.returns-in-BeforeCursor-clause-places
returns-in-BeforeCursor-clause-places c = λ a b a_in b_in.
    rw (c.in-BeforeCursor.is, c.from-2.ensures, c.from-width.ensures, c.from.ensures)
    (places_before c.args.size.width c.args.size.height c.args.x c.args.y a b a_in b_in c.requires.column c.requires.row)

pub returns-in-UntilNewLine-clause-places : goal.returns-in-UntilNewLine-clause-places
returns-in-UntilNewLine-clause-places c = λ a b a_in b_in.
    rw (c.in-UntilNewLine.is, c.from-2.ensures, c.from-width.ensures, c.from.ensures)
    (places_line_end c.args.size.width c.args.size.height c.args.x c.args.y a b a_in b_in c.requires.column c.requires.row)
