use Rattle.ratatui_events.proofs.TextLemmas.{strips-some, strips-none}
use Rattle.ratatui_events.proofs.parsing.stripped.Goals as goal

pub returns-in-Some : goal.returns-in-Some
returns-in-Some c =
    let found = c.in-Some.ensures.cases in
    strips-some c.args.text.now c.args.name.now c.in-Some.rest.now c.args.bits c.args.bit found.0 found.1.0 found.1.1 found.2

pub returns-in-None : goal.returns-in-None
returns-in-None c = strips-none c.args.text.now c.args.name.now c.args.bits c.args.bit c.in-None.ensures.cases
