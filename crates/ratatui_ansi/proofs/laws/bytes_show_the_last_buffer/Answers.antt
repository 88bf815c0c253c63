use Rattle.std.proofs.Common.{subst}
use Rattle.ratatui_core.specs.Terminal.{IsInStep}
use Rattle.ratatui_ansi.specs.Backend.{shown_by}
use Rattle.ratatui_ansi.proofs.HeadlineLemmas.{last-in-step, shown-to-reader}
use Rattle.ratatui_ansi.proofs.laws.bytes_show_the_last_buffer.Goals as goal

pub returns : goal.returns
returns g c =
    λ s events step does fair same none reader left.
    let faithful = c.every_call_is_faithful.ensures s events step does fair in
    shown-to-reader _ reader (subst (IsInStep shown_by) same (last-in-step shown_by s events step faithful))
    ((rw c.backend.ensures at c.writer-writer.ensures.read) none reader left)
