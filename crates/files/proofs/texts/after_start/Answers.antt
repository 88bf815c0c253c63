use Rattle.ratatui_files.proofs.PathLemmas.{after-start_some, after-start_none}
use Rattle.files.proofs.texts.after_start.Goals as goal

pub returns-in-Some : goal.returns-in-Some
returns-in-Some c =
    let found = c.in-Some.ensures.cases in
    after-start_some c.args.start.now c.args.text.now c.in-Some.rest.now found.0 found.1.0 found.1.1 found.2

pub returns-in-None : goal.returns-in-None
returns-in-None c = after-start_none c.args.start.now c.args.text.now c.in-None.ensures.cases
