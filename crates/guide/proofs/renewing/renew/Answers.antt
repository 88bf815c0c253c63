use Rattle.ratatui_core.specs.Terminal.{FillsRows, inserted_area}
use Rattle.guide.proofs.RenewLemmas.{renews}
use Rattle.guide.proofs.renewing.renew.Goals as goal

pub returns : goal.returns
returns g c = λ settled step.
    renews g.B.Backend.screen c.args.area (λ t. inserted_area t c.args.height)
    (λ t. FillsRows g.F.FnOnce c.args.fill (inserted_area t c.args.height))
    _ _ _ _ _ c.every_call_is_faithful.ensures step c.in_ok-is_settled.ensures.drawn (c.in_ok-is_settled.ensures.settled settled)
    c.in_ok-clear.ensures.ok c.in_ok-resize.ensures.outcome
    (λ inline. c.in_ok-insert_before.ensures.outcome inline)
