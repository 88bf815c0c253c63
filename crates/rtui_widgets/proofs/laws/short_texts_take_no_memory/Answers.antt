use Rattle.rtui_widgets.proofs.ShortLemmas.{short-text}
use Rattle.rtui_widgets.proofs.laws.short_texts_take_no_memory.Goals as goal

pub returns : goal.returns
returns c = short-text
