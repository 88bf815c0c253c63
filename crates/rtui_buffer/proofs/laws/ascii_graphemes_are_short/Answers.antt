use Rattle.rtui_buffer.proofs.ShortLemmas.{ascii-short}
use Rattle.rtui_buffer.proofs.laws.ascii_graphemes_are_short.Goals as goal

pub returns : goal.returns
returns c = ascii-short
