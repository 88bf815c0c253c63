use Rattle.widget_popup.proofs.PlaceLemmas.{text-columns, text-rows}
use Rattle.widget_popup.proofs.laws.texts_have_their_room.Goals as goal

pub returns-clause-columns : goal.returns-clause-columns
returns-clause-columns c = text-columns

pub returns-clause-rows : goal.returns-clause-rows
returns-clause-rows c = text-rows
