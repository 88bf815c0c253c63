use Rattle.std.proofs.Common.{◌-◌, refl}
use Rattle.std.proofs.lemmas.Result.{on_ok_weaker}
use Rattle.ansi_model.specs.Emulator.{rested, cursor_moved, erased}
use Rattle.ratatui_core.specs.Backend.{BeforeCursor}
use Rattle.ansi_model.proofs.ReadLemmas.{Sends-then}
use Rattle.ansi_model.proofs.sequences.erase_all.Goals as goal

pub returns : goal.returns
returns c =
    let first = rw (c.saturating_sub.ensures, c.saturating_sub-2.ensures) at c.in_ok-move_to.ensures.moves in
    on_ok_weaker c.erase.result (λ s. Sends-then _ _ _ (λ t. cursor_moved (c.args.width - 1) (c.args.height - 1) (rested t))
    (λ t. erased BeforeCursor (rested t)) first s (λ t. refl)) c.erase.ensures
