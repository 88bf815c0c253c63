use Rattle.guide.proofs.LogLemmas.{logs_if}
use Rattle.guide.proofs.logging.log.Goals as goal

pub draw_checked-requires : goal.draw_checked-requires
draw_checked-requires g c = c.requires.paint _

pub returns : goal.returns
returns g c = logs_if g.B.Backend.screen _ _ _ _ _ c.rows_above_are_those_inserted.ensures
    (λ inline. c.in_ok-insert_before.ensures.outcome inline) c.draw_checked.result c.draw_checked.ensures.drawn
    c.draw_checked.ensures.settled
