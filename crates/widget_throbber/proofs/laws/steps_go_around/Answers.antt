use Rattle.widget_throbber.proofs.TurnLemmas.{number-further, number-back, number-around}
use Rattle.widget_throbber.proofs.laws.steps_go_around.Goals as goal

pub returns-clause-further : goal.returns-clause-further
returns-clause-further c = number-further

pub returns-clause-back : goal.returns-clause-back
returns-clause-back c = number-back

pub returns-clause-around : goal.returns-clause-around
returns-clause-around c = number-around
