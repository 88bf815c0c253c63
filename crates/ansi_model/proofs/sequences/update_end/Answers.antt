use Rattle.std.proofs.Common.{refl}
use Rattle.ansi_model.proofs.ReadLemmas.{update_end-read}
use Rattle.ansi_model.proofs.sequences.update_end.Goals as goal

pub returns : goal.returns
returns c = λ old. record { bytes = _; appended = refl; read = update_end-read }
