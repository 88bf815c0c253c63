use Rattle.ansi_model.proofs.WindowLemmas.{opens-alternate}
use Rattle.ansi_model.proofs.screen.opening_alternate.Goals as goal

pub returns : goal.returns
returns c = opens-alternate
