use Rattle.rtui_symbols.proofs.SetLemmas.{bars-narrow, blocks-narrow, plain-border-narrow, line-narrow}
use Rattle.rtui_symbols.proofs.narrow.symbols_are_narrow.Goals as goal

pub returns : goal.returns
returns c = record { bars = bars-narrow; blocks = blocks-narrow; border = plain-border-narrow; lines = line-narrow }
