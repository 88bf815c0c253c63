use Rattle.std.proofs.Common.{ap, ◌∙◌, subst, IfOk}
use Rattle.ratatui_ansi.specs.Backend.{BackendState}
use Rattle.ratatui_app.specs.Glass.{IsGivenBack}
use Rattle.ratatui_app.proofs.WholeLemmas.{given-back}
use Rattle.ratatui_app.proofs.whole.leave.Goals as goal

pub returns : goal.returns
returns g c = λ none.
    subst (λ (b : BackendState _). IfOk c.leave.result (λ writer. IsGivenBack b (g.W.Write.contents writer)))
    c.into_backend.ensures
    (given-back c.into_backend.result g.W.Write.contents c.leave.result
    (c.leave.ensures.unfailed (ap (λ (b : BackendState _). b.failures) c.into_backend.ensures ∙ none))
    c.leave.ensures.left c.leave.ensures.back)
