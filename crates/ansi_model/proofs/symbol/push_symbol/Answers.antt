use Rattle.ansi_model.proofs.{ReadLemmas.pushed, TextLemmas.text-read, TextLemmas.symbol-text}
use Rattle.ansi_model.proofs.symbol.push_symbol.Goals as goal

pub returns : goal.returns
returns c = pushed c.push_str.result _ _ _ _ c.push_str.ensures.bytes (text-read _ (symbol-text _ c.requires))
