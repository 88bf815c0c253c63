use Rattle.ratatui_input.proofs.PasteLemmas.{pasted-whole, fed-no_keys, fed-goes_on, settled-no_keys}
use Rattle.ratatui_input.proofs.laws.what_is_pasted_is_no_key.Goals as goal

pub returns : goal.returns
returns c = record { text = pasted-whole; keys = fed-no_keys; goes_on = fed-goes_on; settled = settled-no_keys }
