use Rattle.ansi_model.specs.Emulator.{cursor_moved, rested}
use Rattle.ansi_model.proofs.ReadLemmas.{pushed, last_row-read}
use Rattle.ansi_model.proofs.screen.move_to_last_row.Goals as goal

pub returns : goal.returns
returns c = pushed c.push_str.result _ _ _ (λ t. cursor_moved 0 65534 (rested t)) c.push_str.ensures.bytes last_row-read
