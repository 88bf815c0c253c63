use Rattle.rtui_buffer.proofs.PartsLemmas.{text-parts, line-parts, grapheme-piece}
use Rattle.rtui_buffer.proofs.laws.texts_are_painted_in_parts.Goals as goal

pub returns-clause-text : goal.returns-clause-text
returns-clause-text c = text-parts

pub returns-clause-line : goal.returns-clause-line
returns-clause-line c = line-parts

pub returns-clause-grapheme : goal.returns-clause-grapheme
returns-clause-grapheme c = grapheme-piece
