use Rattle.rtui_buffer.proofs.ShortLemmas.{text-short, line-short}
use Rattle.rtui_buffer.proofs.laws.short_graphemes_are_painted_short.Goals as goal

pub returns-clause-text : goal.returns-clause-text
returns-clause-text c = text-short

pub returns-clause-line : goal.returns-clause-line
returns-clause-line c = line-short
