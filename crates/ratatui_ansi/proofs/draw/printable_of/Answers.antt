use Rattle.ratatui_ansi.proofs.FrameLemmas.{own-width, printable-gives}
use Rattle.ratatui_ansi.proofs.draw.printable_of.Goals as goal

pub returns-in-None : goal.returns-in-None
returns-in-None c = printable-gives c.args.cell.now _ (rw c.symbol.ensures at c.only_printable.ensures)
    (own-width c.args.cell.now c.in-None.is)
