use Rattle.std.proofs.Common.{rules}
use Rattle.rtui_terminal.proofs.{MapErrLemmas.at_error, RenderedLemmas.shows-rendered, RenderedLemmas.drawn-weaker}
use Rattle.rtui_terminal.proofs.{RenderedLemmas.refused-weaker, TextRowLemmas.has-cursor}
use Rattle.rtui_terminal.proofs.terminal.Terminal.draw_widget_with_cursor.Goals as goal

pub returns-clause-outcome : goal.returns-clause-outcome
returns-clause-outcome g c =
    drawn-weaker _ _ _ (λ s answer cursor painted ran. search rules) _ _ c.in_ok-draw_frame.ensures.drawn

pub returns-in_err-draw_frame-clause-outcome : goal.returns-in_err-draw_frame-clause-outcome
returns-in_err-draw_frame-clause-outcome g c =
    at_error _ _ _ _ c.from_residual.ensures.1
    (refused-weaker _ _ _ (λ s answer cursor painted ran. search rules) _ _ _ c.in_err-draw_frame.ensures.drawn)

pub returns-clause-shown : goal.returns-clause-shown
returns-clause-shown g c = λ ready empty.
    let shown = shows-rendered _ _ (λ area old new. g.W.Widget.renders c.args.widget area old new) _ _ ready empty
    (λ s cursor painted ran. search rules) c.in_ok-draw_frame.ensures.drawn in
    search rules
