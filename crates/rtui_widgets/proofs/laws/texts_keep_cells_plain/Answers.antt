use Rattle.rtui_widgets.proofs.NarrowTextLemmas.{span-stays, line-stays, text-stays}
use Rattle.rtui_widgets.proofs.laws.texts_keep_cells_plain.Goals as goal

pub returns-clause-span : goal.returns-clause-span
returns-clause-span c = λ span area old new narrow plain is. span-stays area old new plain span narrow is

pub returns-clause-line : goal.returns-clause-line
returns-clause-line c = λ line area old new narrow plain is. line-stays area old new plain line narrow is

pub returns-clause-text : goal.returns-clause-text
returns-clause-text c = λ text area old new narrow plain is. text-stays area old new plain text narrow is
