use Rattle.std.proofs.Common.{subst, ap, ◌∙◌}
use Rattle.ratatui_ansi.specs.{Backend.BackendState, Refusals.AnswersSet, Settings.with_title}
use Rattle.ratatui_ansi.proofs.RefusalLemmas.{answers_set}
use Rattle.ratatui_ansi.proofs.backend.AnsiBackend.send_title.Goals as goal

pub returns-clause-state : goal.returns-clause-state
returns-clause-state g c =
    subst (λ after. AnswersSet c.show_title-answer.result after c.args.self.now c.note.new.self)
    (c.with_title-after.ensures ∙ ap (λ (b : BackendState _). with_title b.settings) c.self.view_is)
    (answers_set c.show_title-answer.result _ _ _ _ c.show_title-answer.ensures.state c.note.ensures)
