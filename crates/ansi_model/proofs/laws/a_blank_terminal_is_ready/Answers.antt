use Rattle.ansi_model.proofs.ScrollLemmas.{blank-idle}
use Rattle.ansi_model.proofs.laws.a_blank_terminal_is_ready.Goals as goal

pub returns : goal.returns
returns c = blank-idle
