use Rattle.ansi_model.proofs.ReadLemmas.{pushed, no_region-read}
use Rattle.ansi_model.proofs.sequences.reset_region.Goals as goal

pub returns : goal.returns
returns c = pushed c.push_str.result _ _ _ _ c.push_str.ensures.bytes no_region-read
