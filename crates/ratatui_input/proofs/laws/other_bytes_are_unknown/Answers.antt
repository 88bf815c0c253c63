use Rattle.ratatui_input.proofs.NothingLemmas.{nothing-told}
use Rattle.ratatui_input.proofs.laws.other_bytes_are_unknown.Goals as goal

pub returns : goal.returns
returns c = λ bytes h. nothing-told h
