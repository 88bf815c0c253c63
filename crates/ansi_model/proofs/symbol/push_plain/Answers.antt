use Rattle.ansi_model.proofs.{ReadLemmas.pushed, TextLemmas.text-read, TextLemmas.plain-text}
use Rattle.ansi_model.proofs.symbol.push_plain.Goals as goal

pub returns : goal.returns
returns c = pushed c.push.result _ _ _ _ c.push.ensures.bytes (text-read _ (plain-text c.args.ch c.requires))
