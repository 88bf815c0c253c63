use Rattle.std.proofs.Common.{sym}
use Rattle.pager.proofs.SearchLemmas.{none-at}
use Rattle.pager.proofs.document.Document.line_or_empty.Goals as goal

pub returns-in-None : goal.returns-in-None
returns-in-None c = sym (none-at c.args.self.now c.args.number (sym c.in-None.ensures))
