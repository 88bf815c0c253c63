use Rattle.ansi_model.proofs.WindowLemmas.{closes-alternate}
use Rattle.ansi_model.proofs.screen.closing_alternate.Goals as goal

pub returns-clause-back : goal.returns-clause-back
returns-clause-back c = closes-alternate
