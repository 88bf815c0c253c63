use Rattle.pager_program.proofs.show_pieces.Goals as goal

pub run_and_leave-requires-clause-blank : goal.run_and_leave-requires-clause-blank
run_and_leave-requires-clause-blank g c = record { at = λ a b a_in b_in. c.in-Ok.ensures.screen.grid a b }

pub run_and_leave-requires-clause-unfailed : goal.run_and_leave-requires-clause-unfailed
run_and_leave-requires-clause-unfailed g c = c.in-Ok.ensures.failures
