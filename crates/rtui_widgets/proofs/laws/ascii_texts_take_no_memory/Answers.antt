use Rattle.rtui_widgets.proofs.AsciiLemmas.{span-ascii, line-ascii, text-ascii, painted-ascii}
use Rattle.rtui_widgets.proofs.laws.ascii_texts_take_no_memory.Goals as goal

pub returns-clause-span : goal.returns-clause-span
returns-clause-span c = span-ascii

pub returns-clause-line : goal.returns-clause-line
returns-clause-line c = line-ascii

pub returns-clause-text : goal.returns-clause-text
returns-clause-text c = text-ascii

pub returns-clause-painted : goal.returns-clause-painted
returns-clause-painted c = painted-ascii
