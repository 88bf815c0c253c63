use Rattle.rtui_widgets.proofs.SettledLemmas.{has-first-row, text-settled}
use Rattle.rtui_widgets.proofs.laws.texts_on_empty_buffers_are_settled.Goals as goal

pub returns-clause-first : goal.returns-clause-first
returns-clause-first c = has-first-row

pub returns-clause-settled : goal.returns-clause-settled
returns-clause-settled c = text-settled
