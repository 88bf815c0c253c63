use Rattle.std.proofs.Common.{ap, sym, ◌∙◌}
use Rattle.ratatui_ansi.proofs.RefusalLemmas.{size-stays}
use Rattle.ratatui_ansi.proofs.backend.AnsiBackend.restart.Goals as goal

pub returns-clause-size : goal.returns-clause-size
returns-clause-size g c =
    let own = ap (λ s. s.size) (sym c.self.view_is) in
    size-stays c.begin_again.result _ _ _ c.begin_again.ensures.size c.begin_again.ensures.refused own ∙ sym own
