use Rattle.rtui_terminal.proofs.RestLemmas.{rests-started, rests-applied, rests-drawn, rests-resized, rests-cleared}
use Rattle.rtui_terminal.proofs.RestLemmas.{rests-inserted}
use Rattle.rtui_terminal.proofs.laws.calls_leave_a_terminal_at_rest.Goals as goal

pub returns-clause-started : goal.returns-clause-started
returns-clause-started g c = rests-started g.B.Backend.screen

pub returns-clause-applied : goal.returns-clause-applied
returns-clause-applied g c = rests-applied g.B.Backend.screen

pub returns-clause-drawn : goal.returns-clause-drawn
returns-clause-drawn g c = rests-drawn g.B.Backend.screen

pub returns-clause-resized : goal.returns-clause-resized
returns-clause-resized g c = rests-resized g.B.Backend.screen

pub returns-clause-cleared : goal.returns-clause-cleared
returns-clause-cleared g c = rests-cleared g.B.Backend.screen

pub returns-clause-inserted : goal.returns-clause-inserted
returns-clause-inserted g c = rests-inserted g.B.Backend.screen
