use Rattle.ratatui_input.proofs.GrammarLemmas.{encodes-read, encodes-among, encodes-anyhow}
use Rattle.ratatui_input.proofs.laws.encodings_are_read.Goals as goal

pub returns : goal.returns
returns c = record { alone = λ bytes event h. encodes-read h; among = encodes-among; anyhow = encodes-anyhow }
