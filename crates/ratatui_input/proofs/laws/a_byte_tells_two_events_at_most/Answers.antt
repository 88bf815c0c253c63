use Rattle.ratatui_input.proofs.DecodingLemmas.{fed-two}
use Rattle.ratatui_input.proofs.laws.a_byte_tells_two_events_at_most.Goals as goal

pub returns : goal.returns
returns c = fed-two
