use Rattle.std.specs.Fmt.{decimal}
use Rattle.ratatui_app.proofs.OneFrameLemmas.{line-has-one-frame}
use Rattle.ratatui_app.proofs.laws.lines_have_one_frame.Goals as goal

pub returns-clause-lines : goal.returns-clause-lines
returns-clause-lines c = line-has-one-frame

pub returns-clause-numbers : goal.returns-clause-numbers
returns-clause-numbers c = λ n. line-has-one-frame (decimal n.count)
