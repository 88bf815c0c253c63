use Rattle.ansi_model.proofs.ReadLemmas.{pushed, showing-read}
use Rattle.ansi_model.proofs.sequences.show_cursor.Goals as goal

pub returns : goal.returns
returns c = pushed c.push_str.result _ _ _ _ c.push_str.ensures.bytes showing-read
