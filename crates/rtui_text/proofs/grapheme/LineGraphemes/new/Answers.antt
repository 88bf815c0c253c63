use Rattle.std.proofs.Common.{rules}
use Rattle.rtui_text.proofs.GraphemeLemmas.{graphemes-empty}
use Rattle.rtui_text.proofs.grapheme.LineGraphemes.new.Goals as goal

pub returns : goal.returns
returns c = rw (c.new.ensures, graphemes-empty, c.iter.ensures.rest) (search rules)
