use Rattle.files_program.proofs.show_on.Goals as goal

pub run_on-requires-clause-blank : goal.run_on-requires-clause-blank
run_on-requires-clause-blank g c = record { at = λ a b a_in b_in. c.in_ok-backend.ensures.blank.grid a b }
