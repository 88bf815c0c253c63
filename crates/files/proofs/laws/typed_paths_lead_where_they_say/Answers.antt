use Rattle.files.proofs.GoingLemmas.{way-within, way-visited, way-located}
use Rattle.files.proofs.laws.typed_paths_lead_where_they_say.Goals as goal

pub returns-clause-within : goal.returns-clause-within
returns-clause-within c = way-within

pub returns-clause-folder : goal.returns-clause-folder
returns-clause-folder c = way-visited

pub returns-clause-entry : goal.returns-clause-entry
returns-clause-entry c = way-located
