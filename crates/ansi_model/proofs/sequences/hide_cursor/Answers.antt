use Rattle.ansi_model.proofs.ReadLemmas.{pushed, hiding-read}
use Rattle.ansi_model.proofs.sequences.hide_cursor.Goals as goal

pub returns : goal.returns
returns c = pushed c.push_str.result _ _ _ _ c.push_str.ensures.bytes hiding-read
