use Rattle.std.proofs.Common.{[], sym}
use Rattle.pager.proofs.SearchLemmas.{none-there}
use Rattle.pager.proofs.styles.Styles.line.Goals as goal

pub returns-in-None : goal.returns-in-None
returns-in-None c = sym (none-there c.args.self.now c.args.number [] (sym c.in-None.ensures))
