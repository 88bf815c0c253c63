use Rattle.ratatui_ansi.proofs.HeadlineLemmas.{one-draw-shown}
use Rattle.ratatui_ansi.proofs.checked.draw_for_all.Goals as goal

pub returns-clause-shown : goal.returns-clause-shown
returns-clause-shown g c = λ settled step whole. one-draw-shown _ _ c.bytes_show_the_last_buffer.ensures step
    c.in_ok-is_settled.ensures.drawn (c.in_ok-is_settled.ensures.settled settled) whole
