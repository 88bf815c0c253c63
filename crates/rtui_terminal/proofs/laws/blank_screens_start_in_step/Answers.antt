use Rattle.rtui_terminal.proofs.StartLemmas.{starts-in-step, starts-blank}
use Rattle.rtui_terminal.proofs.laws.blank_screens_start_in_step.Goals as goal

pub returns-clause-in_step : goal.returns-clause-in_step
returns-clause-in_step g c = starts-in-step g.B.Backend.screen

pub returns-clause-blank : goal.returns-clause-blank
returns-clause-blank g c = starts-blank g.B.Backend.screen
