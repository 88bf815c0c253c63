use Rattle.ratatui_input.proofs.ToleratedLemmas.{tolerated-read}
use Rattle.ratatui_input.proofs.laws.further_numbers_mean_nothing.Goals as goal

pub returns : goal.returns
returns c = λ p bytes event h. tolerated-read h p
