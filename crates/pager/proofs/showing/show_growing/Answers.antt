use Rattle.std.proofs.lemmas.Result.{IfOk-weaker, IfErr-weaker, on_ok_weaker}
use Rattle.ratatui_acts.specs.Seats.{seated}
use Rattle.pager.proofs.GrowLemmas.{shows, stops}
use Rattle.pager.proofs.showing.show_growing.Goals as goal

pub run_and_leave-requires-clause-blank : goal.run_and_leave-requires-clause-blank
run_and_leave-requires-clause-blank g c = record { at = λ a b a_in b_in. c.in-Ok.ensures.screen.grid a b }

pub run_and_leave-requires-clause-unfailed : goal.run_and_leave-requires-clause-unfailed
run_and_leave-requires-clause-unfailed g c = c.in-Ok.ensures.failures

pub returns-clause-shown : goal.returns-clause-shown
returns-clause-shown g c =
    IfOk-weaker c.run_and_leave.result _ _ (λ left. on_ok_weaker left.ended (shows g.S.Source.coming g.O.Outside.answers
    c.args.size (seated c.args.seat.now) c.args.source.now c.args.pieces.now (seated c.run_and_leave.new.seat)
    c.run_and_leave.new.ears c.run_and_leave.new.outside _ _ c.in-Ok.backend c.args.has_ticks c.in-Ok.ensures))
    c.run_and_leave.ensures.runs

pub returns-clause-stops : goal.returns-clause-stops
returns-clause-stops g c =
    IfOk-weaker c.run_and_leave.result _ _ (λ left. IfErr-weaker left.ended _ _ (λ fault. stops g.S.Source.coming
    g.O.Outside.answers c.args.size (seated c.args.seat.now) c.args.source.now c.args.pieces.now
    (seated c.run_and_leave.new.seat) c.run_and_leave.new.ears c.run_and_leave.new.outside _ _ c.in-Ok.backend fault
    c.in-Ok.ensures)) c.run_and_leave.ensures.stops
