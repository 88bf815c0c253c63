use Rattle.ansi_model.specs.Emulator.{cursor_moved, rested}
use Rattle.ansi_model.proofs.ReadLemmas.{pushed, end_asked-read}
use Rattle.ansi_model.proofs.screen.ask_at_the_end.Goals as goal

pub returns-clause-moves : goal.returns-clause-moves
returns-clause-moves c = pushed c.push_str.result _ _ _ (λ t. cursor_moved 65534 65534 (rested t)) c.push_str.ensures.bytes
    end_asked-read
