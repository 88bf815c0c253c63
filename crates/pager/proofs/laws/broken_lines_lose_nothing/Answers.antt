use Rattle.pager.proofs.BrokenLemmas.{in-one-row}
use Rattle.pager.proofs.laws.broken_lines_lose_nothing.Goals as goal

pub returns : goal.returns
returns c = in-one-row
