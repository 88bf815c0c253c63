use Rattle.ratatui_input.proofs.DecodingLemmas.{settled-escape, settled-bracket, settled-single, settled-others, settled-waits}
use Rattle.ratatui_input.proofs.DecodingLemmas.{settled-over, settled-ended}
use Rattle.ratatui_input.proofs.StringLemmas.{settled-opened}
use Rattle.ratatui_input.proofs.laws.settling_ends_keys_and_strings.Goals as goal

pub returns : goal.returns
returns c = record {
  escape = settled-escape;
  bracket = settled-bracket;
  single = settled-single;
  opener = settled-opened;
  waits = settled-waits;
  over = settled-over;
  ended = settled-ended;
  others = settled-others;
}
