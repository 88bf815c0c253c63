use Rattle.ratatui_ansi.proofs.HeadlineLemmas.{read-by-all}
use Rattle.ratatui_ansi.proofs.backend.AnsiBackend.writer.Goals as goal

pub returns-clause-read : goal.returns-clause-read
returns-clause-read g c =
    let kept = c.self.invariant.0 in
    rw (← c.self.view_is) (λ whole. read-by-all _ (kept.alike whole) (kept.awaiting whole).phase (kept.awaiting whole).ready)
