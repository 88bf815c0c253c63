use Rattle.std.proofs.Common.{ap, ◌∙◌, arith, []}
use Rattle.ratatui_input.specs.Decoding.{Told}
use Rattle.ratatui_input.specs.declared.decoder.Decoder.{Decoder}
use Rattle.ratatui_input.proofs.ReaderLemmas.{told-of_none}
use Rattle.ratatui_input.proofs.reader.Kept.new.Goals as goal

pub returns : goal.returns
returns c = told-of_none c.new.result _ 0 0 (omega arith) ∙ ap (λ (d : Decoder). let t : Told = ([], d) in t) c.new.ensures
