use Rattle.screenplay.proofs.AppendLemmas.{IsAppending-run}
use Rattle.screenplay.proofs.laws.a_run_appends_what_it_inserts.Goals as goal

pub returns : goal.returns
returns c = IsAppending-run
