use Rattle.ratatui_ansi.proofs.RefusalLemmas.{answers_set}
use Rattle.ratatui_ansi.proofs.backend.AnsiBackend.set.Goals as goal

pub returns-clause-state : goal.returns-clause-state
returns-clause-state g c = answers_set c.send-answer.result c.args.after _ _ _ c.send-answer.ensures.state c.note.ensures
