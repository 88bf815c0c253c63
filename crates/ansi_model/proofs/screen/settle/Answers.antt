use Rattle.ansi_model.proofs.ReadLemmas.{pushed, settling-read, settling_bytes}
use Rattle.ansi_model.specs.Emulator.{rested}
use Rattle.ansi_model.specs.Inner.{without_modes}
use Rattle.ansi_model.proofs.screen.settle.Goals as goal

pub returns : goal.returns
returns c = pushed c.push_str.result _ _ settling_bytes (λ t. without_modes (rested t)) c.push_str.ensures.bytes settling-read
