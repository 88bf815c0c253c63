use Rattle.ratatui_ansi.proofs.FrameLemmas.{takes-own}
use Rattle.ratatui_ansi.proofs.draw.takes.Goals as goal

pub returns-in-None : goal.returns-in-None
returns-in-None c = takes-own c.args.cell.now c.args.columns c.requires.utf8 c.requires.columns c.in-None.is
