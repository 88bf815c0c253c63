use Rattle.screenplay.proofs.PlayLemmas.{Plays-cleared}
use Rattle.screenplay.proofs.playing.clear.Goals as goal

pub returns-clause-ok : goal.returns-clause-ok
returns-clause-ok c = λ stage good playing. Plays-cleared stage c.args.terminal.now _ good playing c.in_ok-clear.ensures.ok
