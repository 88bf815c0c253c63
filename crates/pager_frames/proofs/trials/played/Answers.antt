use Rattle.std.proofs.Common.{sym, subst}
use Rattle.ratatui_core.specs.{Backend.Screen, Terminal.IsBlank}
use Rattle.pager_frames.proofs.trials.played.Goals as goal

pub begin-requires-clause-blank : goal.begin-requires-clause-blank
begin-requires-clause-blank c =
    subst (λ (s : Screen). IsBlank s) (sym c.failing-screen.ensures.screen)
    (record { at = λ a b a_in b_in. c.in-Ok.ensures.screen.grid a b })
