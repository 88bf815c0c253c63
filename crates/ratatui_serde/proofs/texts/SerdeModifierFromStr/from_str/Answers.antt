use Rattle.bitflags.proofs.HexFacts.{reads_hex}
use Rattle.ratatui_serde.proofs.Words.{reads-modifier}
use Rattle.ratatui_serde.proofs.texts.SerdeModifierFromStr.from_str.Goals as goal

pub returns : goal.returns
returns c = reads-modifier _ _ _ (c.from_str.ensures.value tt (reads_hex 16)) c.in_ok-from_str.was
